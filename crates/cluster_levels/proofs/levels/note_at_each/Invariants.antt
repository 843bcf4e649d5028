use Rattle.std.proofs.Common.{◌≡◌, ◌<◌, ◌≤◌, ℕ, Some}
use Rattle.std.specs.Prelude.{slice_get}
use Rattle.cluster_levels.specs.Clusters.{LevelClusters}
use Rattle.cluster_levels.specs.Levels.{IsNoted}
use Rattle.cluster_levels.proofs.levels.note_at_each.Given as goal

abbrev pub invariant-loop-clusters : goal.invariant-loop-clusters
invariant-loop-clusters l = record {
  done : (i : ℕ) (before after : LevelClusters) → i < l.clusters-index → slice_get l.initial.levels i ≡ Some before → slice_get l.levels i ≡ Some after → IsNoted before after l.p l.q;
  left : (i : ℕ) → l.clusters-index ≤ i → slice_get l.levels i ≡ slice_get l.initial.levels i;
}
