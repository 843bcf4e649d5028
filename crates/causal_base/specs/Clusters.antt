use Rattle.std.specs.Prelude.{ℕ, suc, zero, ◌+◌, ◌-◌, ◌*◌, Bool, true, ◌&&◌, ◌||◌, ◌==◌, nat_le, nat_lt, cond, List, [], ◌∷◌, length, slice_index, count_by, Option, Some}
use Rattle.std.specs.Option.{option_map}
use Rattle.std.specs.List.{filter_map}
use Rattle.causal_base.specs.History.{EventBlock, alone, together}

-- How clusters of traces merge: how many traces there are; the most traces that a cluster may have,
-- at each level from 1 on; and the number of the communication between two clusters from which on
-- they may merge.
pub record Clustering : Type 0 where
  pub traces : ℕ
  pub sizes : List ℕ
  pub after : ℕ

-- whether two traces share the cluster of a level
abbrev pub Partition : Type 0
Partition = ℕ → ℕ → ℕ → Bool

-- the two traces that a delivery joins: those of a pair, or that of an event and that of the event
-- that it names
abbrev pub traces_joined : EventBlock → Option (ℕ × ℕ)
traces_joined (alone e) = option_map (λ mate. (e.id.trace, mate.trace)) e.mate
traces_joined (together a b) = Some (a.id.trace, b.id.trace)

-- the communications of deliveries, in the order of the deliveries
abbrev pub communications : List EventBlock → List (ℕ × ℕ)
communications deliveries = filter_map traces_joined deliveries

-- how many levels have a size
abbrev pub levels_of : Clustering → ℕ
levels_of clustering = length clustering.sizes

-- the most traces that a cluster of this level may have
abbrev pub size_at : Clustering → ℕ → ℕ
size_at clustering level = slice_index clustering.sizes (level - 1)

abbrev pub numbers_below : ℕ → List ℕ
numbers_below zero = []
numbers_below (suc n) = n ∷ numbers_below n

-- how many traces are in the cluster of this trace
abbrev pub cluster_size : Clustering → Partition → ℕ → ℕ → ℕ
cluster_size clustering same level trace = count_by (λ other. same level trace other)
    (numbers_below clustering.traces)

-- one of these traces is in the cluster of p, and the other in that of q
abbrev pub joins_clusters : Partition → ℕ → ℕ → ℕ → ℕ × ℕ → Bool
joins_clusters same level p q traces =
    (same level p traces.0 && same level q traces.1)
    || (same level p traces.1 && same level q traces.0)

-- Two clusters of a level may merge when together they are no larger than its size, and enough of
-- the communications so far join the two.
abbrev pub may_merge : Clustering → Partition → List (ℕ × ℕ) → ℕ → ℕ → ℕ → Bool
may_merge clustering same so_far level p q =
    nat_le (cluster_size clustering same level p + cluster_size clustering same level q)
    (size_at clustering level)
    && nat_le clustering.after (count_by (joins_clusters same level p q) so_far)

-- the test holds at so many levels from this one up
abbrev pub holds_up_from : (ℕ → Bool) → ℕ → ℕ → Bool
holds_up_from test level zero = true
holds_up_from test level (suc more) = test level && holds_up_from test (suc level) more

-- at this level and at each above it that has a size, the two traces share a cluster, or theirs may
-- merge
abbrev pub merges_down_to : Clustering → Partition → List (ℕ × ℕ) → ℕ → ℕ → ℕ → Bool
merges_down_to clustering same so_far p q level =
    holds_up_from (λ j. same j p q || may_merge clustering same so_far j p q) level
    (suc (levels_of clustering) - level)

-- At first each trace is alone at each level that has a size, and one cluster has all traces above
-- those levels.
abbrev pub apart : Clustering → Partition
apart clustering level p q = (p == q) || nat_lt (levels_of clustering) level

-- the clusters of p and q become one at each level down to which they merge
abbrev pub merged : Clustering → Partition → List (ℕ × ℕ) → ℕ → ℕ → Partition
merged clustering same so_far p q level x y =
    same level x y || (merges_down_to clustering same so_far p q level
    && joins_clusters same level p q (x, y))

-- the partition after communications, the newest of which comes first
abbrev pub partition : Clustering → List (ℕ × ℕ) → Partition
partition clustering [] = apart clustering
partition clustering ((p, q) ∷ earlier) = merged clustering (partition clustering earlier)
    ((p, q) ∷ earlier) p q

-- the first of so many levels from this one up at which the test holds, or else the level above
-- them
abbrev pub first_level : (ℕ → Bool) → ℕ → ℕ → ℕ
first_level test level zero = level
first_level test level (suc more) = cond (test level) level (first_level test (suc level) more)

-- the level of two traces: the first at which they share a cluster
abbrev pub shared_level : Clustering → Partition → ℕ × ℕ → ℕ
shared_level clustering same traces = first_level (λ level. same level traces.0 traces.1) 1
    (levels_of clustering)

-- the partition right after deliveries, the newest of which comes first
abbrev pub partition_after : Clustering → List EventBlock → Partition
partition_after clustering deliveries = partition clustering (communications deliveries)

-- the bound on look-ups: 1 + m1 + m1 m2 + .. for the sizes m1, m2, ..
abbrev pub bound_of : List ℕ → ℕ
bound_of [] = 1
bound_of (size ∷ sizes) = 1 + size * bound_of sizes
