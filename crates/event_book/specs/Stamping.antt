-- A journal with the clusters and the stamps that belong to it.
use Rattle.std.specs.Prelude.{◌≡◌, ℕ, ◌+◌, ◌≤◌, ◌==◌, List, ◌++◌, length, Contains, count_by, Option, IfSome}
use Rattle.std.specs.List.{sum_by}
use Rattle.std.specs.Option.{option_map, option_to_list}
use Rattle.causal_base.specs.declared.entry.Entry.{Entry}
use Rattle.causal_base.specs.declared.event.Event.{Event}
use Rattle.causal_base.specs.declared.event_id.EventId.{EventId}
use Rattle.causal_base.specs.declared.limits.TheConstants.{MOST_EVENTS}
use Rattle.causal_base.specs.Types.{TypeTable}
use Rattle.causal_base.specs.TypeTables.{IsTypeTable}
use Rattle.causal_base.specs.Clusters.{Clustering, communications, levels_of, traces_joined}
use Rattle.causal_base.specs.History.{EventBlock, count_on}
use Rattle.causal_base.specs.Journal.{IsLegal, came_by, delivered_by, deliveries_by}
use Rattle.causal_base.specs.Past.{HasEvent}
use Rattle.causal_base.specs.Stamps.{ClusterTimestamp, IsStamp, level_of, members_of}
use Rattle.cluster_levels.specs.Levels.{ClusterLevels, StandsAfter, clustering_of}
use Rattle.cluster_levels.specs.Sizes.{AreSizes}
use Rattle.cluster_merge.specs.declared.merge.Merge.{Merge}
use Rattle.cluster_merge.specs.Planned.{IsPlanned}
use Rattle.projected_stamp.specs.StampLists.{StampLists, IsStampAt, parts_of}
use Rattle.shared_list.specs.Traces.{list_of}

-- The lists, one for each trace, have the stamps of these events by some deliveries, by trace and
-- number, and no others.
pub record AreStampsAmong (types : TypeTable) (clustering : Clustering)
    (history : List EventBlock) (events : List Event) (lists : List (List ClusterTimestamp))
    : Type 0 where
  pub traces : length lists ≡ types.traces
  pub each : (e : Event) → Contains events e → (stamp : ClusterTimestamp)
      × IsStampAt lists e.id stamp × IsStamp types clustering history e stamp
  pub only : (id : EventId) (stamp : ClusterTimestamp) → IsStampAt lists id stamp
      → HasEvent events id
  pub counts : (trace : ℕ) → length (list_of lists trace) ≡ count_on trace events

-- they are the stamps of the delivered events of a journal
abbrev pub HasStamps : TypeTable → Clustering → List Entry → List (List ClusterTimestamp) → Type 0
HasStamps types clustering journal lists =
    AreStampsAmong types clustering (deliveries_by journal) (delivered_by journal) lists

-- how many numbers the stamps of events have, by some deliveries
abbrev pub parts_among : Clustering → List EventBlock → List Event → ℕ
parts_among clustering history events =
    sum_by (λ e. length (members_of clustering history e.id)) events

-- how many events have the level above those that have a size
abbrev pub full_among : Clustering → List EventBlock → List Event → ℕ
full_among clustering history events =
    count_by (λ e. level_of clustering history e.id == levels_of clustering + 1) events

-- how many numbers the stamps of the delivered events of a journal have
abbrev pub parts_by : Clustering → List Entry → ℕ
parts_by clustering journal = parts_among clustering (deliveries_by journal) (delivered_by journal)

-- how many delivered events of a journal have the level above those that have a size
abbrev pub full_by : Clustering → List Entry → ℕ
full_by clustering journal = full_among clustering (deliveries_by journal) (delivered_by journal)

-- The journal is a value's own, which is the only one that it stands for.
pub record IsOwn (types : TypeTable) (own journal : List Entry) : Type 0 where
  pub same : journal ≡ own
  pub legal : IsLegal types journal

-- The types and the journal of a delivery; the clusters, and the stamps with the room for more of
-- them; and how many stamps have all traces.
pub record StampedState : Type 0 where
  pub types : TypeTable
  pub journal : List Entry
  pub levels : ClusterLevels
  pub stamps : StampLists
  pub full : ℕ

-- What holds of them: the journal is legal, and the rest is what belongs to it.
pub record IsStamped (state : StampedState) : Type 0 where
  pub table : IsTypeTable state.types
  pub legal : IsLegal state.types state.journal
  pub few : length (came_by state.journal) ≤ MOST_EVENTS
  pub traces : state.levels.traces ≡ state.types.traces
  pub sizes : AreSizes state.levels.sizes
  pub stands : StandsAfter state.levels (communications (deliveries_by state.journal))
  pub has_stamps : HasStamps state.types (clustering_of state.levels) state.journal
      state.stamps.lists
  pub parts_are : parts_of state.stamps.lists
      ≡ parts_by (clustering_of state.levels) state.journal
  pub full_is : state.full ≡ full_by (clustering_of state.levels) state.journal

-- the two traces of a merge
abbrev pub traces_of : Merge → ℕ × ℕ
traces_of merge = (merge.p, merge.q)

-- the communications with that of a merge, where there is one
abbrev pub with_merge : Option Merge → List (ℕ × ℕ) → List (ℕ × ℕ)
with_merge merge so_far = option_to_list (option_map traces_of merge) ++ so_far

-- The merge was planned for this delivery, or there is none where it joins no traces.
pub record IsMergeOf (levels : ClusterLevels) (delivery : EventBlock) (merge : Option Merge)
    : Type 0 where
  pub joins : traces_joined delivery ≡ option_map traces_of merge
  pub planned : IfSome merge (IsPlanned levels)
