-- The lists of clusters, and what is kept of them.
use Rattle.std.specs.Prelude.{◌≡◌, ℕ, ◌+◌, ◌-◌, ◌≤◌, Bool, ◌⊎◌, List, ◌++◌, Contains, length, reverse, filter, Option, Some, slice_get}
use Rattle.causal_base.specs.Clusters.{Clustering, levels_of, numbers_below, partition}

-- those of so many traces that pass a test, in rising order
abbrev pub traces_that : (ℕ → Bool) → ℕ → List ℕ
traces_that test traces = filter test (reverse (numbers_below traces))

-- the traces in the cluster of a trace at a level, in rising order, after communications
abbrev pub cluster_of : Clustering → List (ℕ × ℕ) → ℕ → ℕ → List ℕ
cluster_of clustering so_far level trace =
    traces_that (λ other. partition clustering so_far level trace other) clustering.traces

-- what is kept: for each level, lowest first, and each trace perhaps a list
abbrev pub KeptLists : Type 0
KeptLists = List (List (Option (List ℕ)))

-- The list is kept for a trace at a level, from 1 up.
pub record IsKeptAt (kept : KeptLists) (level trace : ℕ) (list : List ℕ) : Type 0 where
  pub lists : List (Option (List ℕ))
  pub at_level : slice_get kept (level - 1) ≡ Some lists
  pub at_trace : slice_get lists trace ≡ Some (Some list)

-- What is kept at a level after a list was taken for the traces that are in it.
pub record AreTaken (old new : List (Option (List ℕ))) (list : List ℕ) : Type 0 where
  pub traces : length new ≡ length old
  pub lists : (trace : ℕ) (kept : List ℕ) → slice_get new trace ≡ Some (Some kept)
      → (slice_get old trace ≡ Some (Some kept)) ⊎ (Contains list trace × (kept ≡ list))
  pub taken : (trace : ℕ) (kept : List ℕ) → Contains list trace
      → slice_get new trace ≡ Some (Some kept) → kept ≡ list

-- The list is that of the trace's cluster after some of these communications, up to a moment.
pub record IsOfEarlier (clustering : Clustering) (so_far : List (ℕ × ℕ)) (level trace : ℕ)
    (members : List ℕ) : Type 0 where
  pub newer : List (ℕ × ℕ)
  pub older : List (ℕ × ℕ)
  pub up_to_now : newer ++ older ≡ so_far
  pub are : members ≡ cluster_of clustering older level trace

-- For each level from 1 to the one above those that have a size there is perhaps a list for each
-- trace, which is that of its cluster at an earlier moment.
pub record AreKept (clustering : Clustering) (so_far : List (ℕ × ℕ))
    (kept : KeptLists) : Type 0 where
  pub levels : length kept ≡ levels_of clustering + 1
  pub traces : (i : ℕ) (lists : List (Option (List ℕ))) → slice_get kept i ≡ Some lists
      → length lists ≡ clustering.traces
  pub each : (level trace : ℕ) (list : List ℕ) → 1 ≤ level → IsKeptAt kept level trace list
      → IsOfEarlier clustering so_far level trace list
