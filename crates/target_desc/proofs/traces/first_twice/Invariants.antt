use Rattle.std.proofs.Common.{ℕ, ◌<◌}
use Rattle.target_desc.specs.Names.{IsTwiceName}
use Rattle.target_desc.proofs.traces.first_twice.Given as goal

abbrev pub invariant-loop-place : goal.invariant-loop-place
invariant-loop-place l = (j : ℕ) → j < l.place → IsTwiceName l.names j → ⊥
