use Rattle.std.proofs.Common.{ℕ, List}
use Rattle.cluster_levels.specs.Levels.{StandsAfter, clustering_of}
use Rattle.cluster_members.specs.Kept.{AreKept}
use Rattle.cluster_tests.proofs.members.members_of_deliveries.Given as goal

abbrev pub invariant-loop-trace : goal.invariant-loop-trace
invariant-loop-trace g l = (so_far : List (ℕ × ℕ)) × StandsAfter l.levels so_far × AreKept (clustering_of l.levels) so_far l.kept
