use Rattle.std.proofs.Common.{◌+◌, ◌≡◌, ℕ, ◌≤◌, List, length}
use Rattle.cluster_levels.specs.Levels.{StandsAfter, clustering_of}
use Rattle.cluster_merge.proofs.Joined.{AreJoinedAbove}
use Rattle.cluster_merge.proofs.applying.apply.Given as goal

abbrev pub invariant-loop-level : goal.invariant-loop-level
invariant-loop-level l = record {
  few : l.level ≤ length l.fn.levels.sizes;
  not_past : l.merge.level ≤ l.level + 1;
  made_with : clustering_of l.levels ≡ clustering_of l.fn.levels;
  joined : (so_far : List (ℕ × ℕ)) → StandsAfter l.fn.levels so_far → AreJoinedAbove l.fn.levels l.levels so_far l.merge.p l.merge.q l.level;
}

abbrev pub decreases-loop-level : goal.decreases-loop-level
decreases-loop-level l = l.level
