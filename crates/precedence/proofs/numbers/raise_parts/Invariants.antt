use Rattle.precedence.proofs.Raising.{RaisesBefore}
use Rattle.precedence.proofs.numbers.raise_parts.Given as goal

abbrev pub invariant-loop-place : goal.invariant-loop-place
invariant-loop-place l = RaisesBefore l.stamp l.place l.fn.numbers l.numbers
