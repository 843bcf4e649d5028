use Rattle.std.proofs.Common.{◌≡◌}
use Rattle.input_tests.proofs.histories.offer_lines.Given as goal

abbrev pub invariant-loop-line : goal.invariant-loop-line
invariant-loop-line l = l.plain.types ≡ l.types
