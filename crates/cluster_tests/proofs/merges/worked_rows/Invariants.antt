use Rattle.std.proofs.Common.{ℕ, List}
use Rattle.cluster_levels.specs.Levels.{StandsAfter}
use Rattle.cluster_tests.proofs.merges.worked_rows.Given as goal

abbrev pub invariant-loop-p : goal.invariant-loop-p
invariant-loop-p g l = (so_far : List (ℕ × ℕ)) × StandsAfter l.levels so_far
