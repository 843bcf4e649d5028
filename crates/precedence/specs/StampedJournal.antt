-- A legal journal, and what the stamps of its events are.
use Rattle.std.specs.Prelude.{◌≡◌, ℕ, ◌<◌, ◌≤◌, List, length, slice_index, Contains}
use Rattle.causal_base.specs.declared.entry.Entry.{Entry}
use Rattle.causal_base.specs.declared.event.Event.{Event}
use Rattle.causal_base.specs.declared.event_id.EventId.{EventId}
use Rattle.causal_base.specs.declared.limits.TheConstants.{MOST_TRACES}
use Rattle.causal_base.specs.Types.{TypeTable}
use Rattle.causal_base.specs.Clusters.{Clustering}
use Rattle.causal_base.specs.Journal.{IsLegal, delivered_by, deliveries_by}
use Rattle.causal_base.specs.Past.{HasEvent}
use Rattle.causal_base.specs.Stamps.{ClusterTimestamp, IsStamp}
use Rattle.projected_stamp.specs.StampLists.{IsStampAt}

-- A legal journal, and how its traces are clustered: by sizes of at least 1.
pub record StampedJournal : Type 0 where
  pub types : TypeTable
  pub clustering : Clustering
  pub journal : List Entry
  pub legal : IsLegal types journal
  pub traces : clustering.traces ≡ types.traces
  pub few : types.traces ≤ MOST_TRACES
  pub some : (i : ℕ) → i < length clustering.sizes → 1 ≤ slice_index clustering.sizes i

-- the stamp of a delivered event of the journal
abbrev pub IsStampIn : StampedJournal → Event → ClusterTimestamp → Type 0
IsStampIn w e stamp = IsStamp w.types w.clustering (deliveries_by w.journal) e stamp

-- The lists, one for each trace, have the stamps of the delivered events, by trace and number, and
-- no others.
pub record AreStampsOf (w : StampedJournal) (lists : List (List ClusterTimestamp)) : Type 0 where
  pub traces : length lists ≡ w.types.traces
  pub each : (e : Event) → Contains (delivered_by w.journal) e
      → (stamp : ClusterTimestamp) × IsStampAt lists e.id stamp × IsStampIn w e stamp
  pub only : (id : EventId) (stamp : ClusterTimestamp) → IsStampAt lists id stamp
      → HasEvent (delivered_by w.journal) id
