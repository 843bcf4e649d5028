use Rattle.std.proofs.Common.{◌+◌, ◌≡◌, ℕ, ◌≤◌, ◌∷◌, List, length, true}
use Rattle.causal_base.specs.Clusters.{merges_down_to, partition}
use Rattle.cluster_levels.specs.Levels.{StandsAfter, clustering_of}
use Rattle.cluster_merge.proofs.planning.plan.Given as goal

abbrev pub invariant-loop-level : goal.invariant-loop-level
invariant-loop-level l = record {
  least : 1 ≤ l.level;
  most : l.level ≤ length l.levels.sizes + 1;
  merges : (so_far : List (ℕ × ℕ)) → StandsAfter l.levels so_far
      → merges_down_to (clustering_of l.levels) (partition (clustering_of l.levels) so_far) ((l.p, l.q) ∷ so_far) l.p l.q l.level ≡ true;
}

abbrev pub decreases-loop-level : goal.decreases-loop-level
decreases-loop-level l = l.level
