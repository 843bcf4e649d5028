-- The clusters of one level.
use Rattle.std.specs.Prelude.{◌≡◌, ℕ, ◌<◌, ◌≤◌, Bool, false, if◌then◌else◌, ◌==◌, List, [], ◌∷◌, length, slice_index, count_by}
use Rattle.causal_base.specs.Clusters.{Partition, numbers_below, joins_clusters}
use Rattle.causal_base.specs.declared.limits.TheConstants.{MOST_TRACES}
use Rattle.cluster_levels.specs.Tallies.{TallyTable, tally, counted}

-- The label of each trace's cluster, which is the number of one of its traces; and for two labels
-- how often their clusters communicated, where that is kept.
pub record LevelClusters : Type 0 where
  pub labels : List ℕ
  pub tallies : TallyTable

-- the label of a trace's cluster
abbrev pub label_of : LevelClusters → ℕ → ℕ
label_of clusters trace = slice_index clusters.labels trace

-- two traces share a cluster
abbrev pub shares : LevelClusters → ℕ → ℕ → Bool
shares clusters p q = label_of clusters p == label_of clusters q

-- the partition that has these clusters at each level
abbrev pub as_partition : LevelClusters → Partition
as_partition clusters level p q = shares clusters p q

-- how many traces have a label
abbrev pub count_of : List ℕ → ℕ → ℕ
count_of labels label = count_by (λ trace. label == slice_index labels trace)
    (numbers_below (length labels))

-- how many traces are in the cluster of this trace
abbrev pub size_of : LevelClusters → ℕ → ℕ
size_of clusters trace = count_of clusters.labels (label_of clusters trace)

-- how many communications join the clusters of two traces
abbrev pub joins_of : LevelClusters → List (ℕ × ℕ) → ℕ → ℕ → ℕ
joins_of clusters so_far p q = count_by (joins_clusters (as_partition clusters) 0 p q) so_far

-- both are among so many traces, in each communication
abbrev pub AreOn : ℕ → List (ℕ × ℕ) → Type 0
AreOn traces [] = Unit {0}
AreOn traces (pair ∷ so_far) = (pair.0 < traces) × (pair.1 < traces) × AreOn traces so_far

-- How often two clusters communicated is what the tallies say.
pub record AreTallied (clusters : LevelClusters) (so_far : List (ℕ × ℕ)) : Type 0 where
  pub tallied : (p q : ℕ) → p < length clusters.labels → q < length clusters.labels
      → shares clusters p q ≡ false
      → tally clusters.tallies (label_of clusters p) (label_of clusters q)
      ≡ counted (joins_of clusters so_far p q)

-- The clusters of the two traces are one, and nothing else changed.
pub record AreJoined (old new : LevelClusters) (p q : ℕ) : Type 0 where
  pub traces : length new.labels ≡ length old.labels
  pub width : new.tallies.width ≡ old.tallies.width
  pub joined : (x : ℕ) → x < length old.labels
      → label_of new x ≡ (if label_of old x == label_of old q then label_of old p
      else label_of old x)

-- Each label is that of a trace, and the sizes and tallies are those of the labels.
pub record AreClusters (labels sizes : List ℕ) (width : ℕ) : Type 0 where
  pub few : length labels ≤ MOST_TRACES
  pub are_labels : (trace : ℕ) → trace < length labels
      → slice_index labels trace < length labels
  pub long : length sizes ≡ length labels
  pub are_sizes : (label : ℕ) → label < length labels
      → slice_index sizes label ≡ count_of labels label
  pub wide : 0 < width → width ≡ length labels
