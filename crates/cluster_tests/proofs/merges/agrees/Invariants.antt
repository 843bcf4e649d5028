use Rattle.std.proofs.Common.{ℕ, List}
use Rattle.cluster_levels.specs.Levels.{StandsAfter}
use Rattle.cluster_tests.proofs.merges.agrees.Given as goal

abbrev pub invariant-loop : goal.invariant-loop
invariant-loop l = (so_far : List (ℕ × ℕ)) × StandsAfter l.levels so_far
