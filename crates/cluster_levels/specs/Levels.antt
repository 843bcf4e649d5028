-- The clusters of all levels, and after which communications they stand.
use Rattle.std.specs.Prelude.{◌≡◌, ℕ, suc, ◌<◌, ◌≤◌, ◌-◌, Bool, true, ◌==◌, ◌&&◌, ◌||◌, nat_lt, List, ◌∷◌, length, Option, None, Some, slice_get, if◌then◌else◌}
use Rattle.causal_base.specs.Clusters.{Clustering, Partition, joins_clusters, partition}
use Rattle.causal_base.specs.declared.limits.TheConstants.{MOST_TRACES}
use Rattle.cluster_levels.specs.Clusters.{LevelClusters, AreOn, AreTallied, shares, label_of}
use Rattle.cluster_levels.specs.Tallies.{tally}
use Rattle.cluster_levels.specs.Sizes.{AreSizes}

-- How many traces there are; the size of each level; the number of the communication from which on
-- clusters may merge; and the clusters of each level, lowest level first.
pub record ClusterLevels : Type 0 where
  pub traces : ℕ
  pub sizes : List ℕ
  pub after : ℕ
  pub levels : List LevelClusters

-- how clusters merge here
abbrev pub clustering_of : ClusterLevels → Clustering
clustering_of value = record { traces = value.traces; sizes = value.sizes; after = value.after }

-- two traces share one of these clusters, or there are none
abbrev pub shares_in : Option LevelClusters → ℕ → ℕ → Bool
shares_in None p q = true
shares_in (Some clusters) p q = shares clusters p q

-- the clusters of a level that has a size
abbrev pub clusters_at : ClusterLevels → ℕ → Option LevelClusters
clusters_at value level = slice_get value.levels (level - 1)

-- two traces share a cluster of a level, from 1 up; above those with a size one cluster has all
abbrev pub same_in : ClusterLevels → Partition
same_in value level p q = shares_in (clusters_at value level) p q

-- The traces share clusters as in this partition, at each level from 1 up.
pub record HasPartition (value : ClusterLevels) (same : Partition) : Type 0 where
  pub shared : (level p q : ℕ) → 1 ≤ level → p < value.traces → q < value.traces
      → same_in value level p q ≡ same level p q

-- What is kept of these communications suffices to say which clusters may merge: from the second
-- one on at least that many have to join two clusters, so they are tallied.
pub record IsCounted (value : ClusterLevels) (so_far : List (ℕ × ℕ)) : Type 0 where
  pub on_traces : AreOn value.traces so_far
  pub tallied : 1 < value.after → (i : ℕ) (clusters : LevelClusters)
      → slice_get value.levels i ≡ Some clusters → AreTallied clusters so_far

-- The levels stand after these communications, the newest of which comes first.
pub record StandsAfter (value : ClusterLevels) (so_far : List (ℕ × ℕ)) : Type 0 where
  pub shared : HasPartition value (partition (clustering_of value) so_far)
  pub is_counted : IsCounted value so_far

-- the partition where the clusters of two traces became one at a level
abbrev pub joined_at : Partition → ℕ → ℕ → ℕ → Partition
joined_at same level p q other x y =
    same other x y || ((other == level) && joins_clusters same other p q (x, y))

-- each cluster of a level lies within one cluster of the next
abbrev pub AreNested : List LevelClusters → Type 0
AreNested levels = (i : ℕ) (low high : LevelClusters) → slice_get levels i ≡ Some low
    → slice_get levels (suc i) ≡ Some high → (p q : ℕ) → p < length low.labels
    → q < length low.labels → shares low p q ≡ true → shares high p q ≡ true

-- There are 1 to 256 traces and as many levels as sizes, each with all traces, and with tallies
-- where they are needed.
pub record AreLevels (value : ClusterLevels) : Type 0 where
  pub some : 1 ≤ value.traces
  pub most : value.traces ≤ MOST_TRACES
  pub sizes : AreSizes value.sizes
  pub as_many : length value.levels ≡ length value.sizes
  pub traces : (i : ℕ) (clusters : LevelClusters) → slice_get value.levels i ≡ Some clusters
      → length clusters.labels ≡ value.traces
  pub width : (i : ℕ) (clusters : LevelClusters) → slice_get value.levels i ≡ Some clusters
      → clusters.tallies.width ≡ (if nat_lt 1 value.after then value.traces else 0)
  pub nested : AreNested value.levels

-- Each level has each of so many traces alone, and tallies of no communications, of this width.
pub record AllAlone (levels : List LevelClusters) (traces width : ℕ) : Type 0 where
  pub traces_each : (i : ℕ) (clusters : LevelClusters) → slice_get levels i ≡ Some clusters
      → length clusters.labels ≡ traces
  pub alone : (i : ℕ) (clusters : LevelClusters) → slice_get levels i ≡ Some clusters
      → (trace : ℕ) → trace < traces → label_of clusters trace ≡ trace
  pub width_each : (i : ℕ) (clusters : LevelClusters) → slice_get levels i ≡ Some clusters
      → clusters.tallies.width ≡ width
  pub none : (i : ℕ) (clusters : LevelClusters) → slice_get levels i ≡ Some clusters
      → (row column : ℕ) → row < width → column < width
      → tally clusters.tallies row column ≡ 0

-- The new clusters of a level have the labels of the old ones, and tally one communication more.
pub record IsNoted (old new : LevelClusters) (p q : ℕ) : Type 0 where
  pub labels : new.labels ≡ old.labels
  pub width : new.tallies.width ≡ old.tallies.width
  pub tallied : (so_far : List (ℕ × ℕ)) → AreTallied old so_far
      → AreTallied new ((p, q) ∷ so_far)

-- So it is at each level.
pub record AreNoted (old new : List LevelClusters) (p q : ℕ) : Type 0 where
  pub as_many : length new ≡ length old
  pub each : (i : ℕ) (before after : LevelClusters) → slice_get old i ≡ Some before
      → slice_get new i ≡ Some after → IsNoted before after p q
