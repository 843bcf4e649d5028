-- A merge that was planned for a communication.
use Rattle.std.specs.Prelude.{◌≡◌, ℕ, ◌+◌, ◌<◌, ◌≤◌, nat_le, List, ◌∷◌, length}
use Rattle.causal_base.specs.Clusters.{merges_down_to, partition, shared_level}
use Rattle.cluster_levels.specs.Levels.{ClusterLevels, StandsAfter, clustering_of}
use Rattle.cluster_merge.specs.declared.merge.Merge.{Merge}

-- With a communication of the two traces after these, their clusters become one at each level from
-- the merge's up, and that is then the first level at which they share a cluster.
pub record IsMergeAfter (value : ClusterLevels) (so_far : List (ℕ × ℕ)) (merge : Merge)
    : Type 0 where
  pub level : merge.level ≡ shared_level (clustering_of value)
      (partition (clustering_of value) ((merge.p, merge.q) ∷ so_far)) (merge.p, merge.q)
  pub down : (level : ℕ) → 1 ≤ level → nat_le merge.level level
      ≡ merges_down_to (clustering_of value) (partition (clustering_of value) so_far)
      ((merge.p, merge.q) ∷ so_far) merge.p merge.q level

-- The merge was planned on these levels: it is that of a communication that comes next, after
-- whichever the levels stand.
pub record IsPlanned (value : ClusterLevels) (merge : Merge) : Type 0 where
  pub first : merge.p < value.traces
  pub second : merge.q < value.traces
  pub least : 1 ≤ merge.level
  pub most : merge.level ≤ length value.sizes + 1
  pub merges : (so_far : List (ℕ × ℕ)) → StandsAfter value so_far
      → IsMergeAfter value so_far merge
