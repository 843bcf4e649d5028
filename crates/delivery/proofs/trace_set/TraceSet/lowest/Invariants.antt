use Rattle.std.proofs.Common.{◌<◌, ◌/◌, ℕ}
use Rattle.delivery.specs.TraceSets.{IsIn}
use Rattle.delivery.proofs.trace_set.TraceSet.lowest.Given as goal

abbrev pub invariant-loop-at : goal.invariant-loop-at
invariant-loop-at l = (trace : ℕ) → trace / 64 < l.at → IsIn l.self trace → ⊥
