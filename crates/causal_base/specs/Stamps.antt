use Rattle.std.specs.Prelude.{◌≡◌, ◌≤◌, ◌<◌, ◌⊎◌, ℕ, Bool, true, ◌||◌, cond, List, [], ◌∷◌, reverse, filter, Contains, Option, None, Some}
use Rattle.causal_base.specs.declared.event.Event.{Event}
use Rattle.causal_base.specs.declared.event_id.EventId.{EventId}
use Rattle.causal_base.specs.Types.{TypeTable}
use Rattle.causal_base.specs.Clocks.{IsClock}
use Rattle.causal_base.specs.Clusters.{Clustering, Partition, partition_after, shared_level, traces_joined, numbers_below}
use Rattle.causal_base.specs.History.{EventBlock, alone, together, all_events}
use Rattle.causal_base.specs.Past.{is_same_id}

-- Here a history is deliveries with the newest first.

-- the delivery has the event with this id
abbrev pub delivers : EventId → EventBlock → Bool
delivers id (alone e) = is_same_id id e.id
delivers id (together a b) = is_same_id id a.id || is_same_id id b.id

-- the deliveries up to and with that of the event with this id, and none where it isn't delivered
abbrev pub history_of : EventId → List EventBlock → List EventBlock
history_of id [] = []
history_of id (delivery ∷ past) = cond (delivers id delivery) (delivery ∷ past) (history_of id past)

-- 1 where no traces are joined, and else the first level at which the two share a cluster
abbrev pub joined_level : Clustering → Partition → Option (ℕ × ℕ) → ℕ
joined_level clustering same None = 1
joined_level clustering same (Some traces) = shared_level clustering same traces

-- the level of the newest delivery, in the partition right after it
abbrev pub newest_level : Clustering → List EventBlock → ℕ
newest_level clustering [] = 1
newest_level clustering (delivery ∷ past) = joined_level clustering
    (partition_after clustering (delivery ∷ past)) (traces_joined delivery)

-- the level of a delivered event
abbrev pub level_of : Clustering → List EventBlock → EventId → ℕ
level_of clustering history id = newest_level clustering (history_of id history)

-- The members of a delivered event are the traces in the cluster of its own trace, at its level,
-- right after its delivery.
abbrev pub is_member : Clustering → List EventBlock → EventId → ℕ → Bool
is_member clustering history id trace =
    partition_after clustering (history_of id history) (level_of clustering history id) id.trace
    trace

-- the members in rising order
abbrev pub members_of : Clustering → List EventBlock → EventId → List ℕ
members_of clustering history id = filter (is_member clustering history id)
    (reverse (numbers_below clustering.traces))

-- What is kept of an event: its level, its members, and its clock for each member.
pub record ClusterTimestamp : Type 0 where
  pub level : ℕ
  pub members : List ℕ
  pub clock : List ℕ

-- the clock of the event for each of the traces, one number a trace
abbrev pub AreClocks : TypeTable → List Event → Event → List ℕ → List ℕ → Type 0
AreClocks types events e [] [] = Unit {0}
AreClocks types events e [] (n ∷ clock) = ⊥
AreClocks types events e (trace ∷ traces) [] = ⊥
AreClocks types events e (trace ∷ traces) (n ∷ clock) = IsClock types events e trace n
    × AreClocks types events e traces clock

-- the stamp of a delivered event
pub record IsStamp (types : TypeTable) (clustering : Clustering) (history : List EventBlock)
    (e : Event) (stamp : ClusterTimestamp) : Type 0 where
  pub delivered : Contains (all_events history) e
  pub level : stamp.level ≡ level_of clustering history e.id
  pub members : stamp.members ≡ members_of clustering history e.id
  pub clock : AreClocks types (all_events (history_of e.id history)) e stamp.members stamp.clock

-- the last event of a trace that has a greater level than this one, and a number up to this one
pub record IsLastAbove (clustering : Clustering) (history : List EventBlock)
    (trace level number : ℕ) (r : Event) : Type 0 where
  pub among : Contains (all_events history) r
  pub on : r.id.trace ≡ trace
  pub most : r.id.number ≤ number
  pub above : level < level_of clustering history r.id
  pub last : (x : Event) → Contains (all_events history) x → x.id.trace ≡ trace
      → x.id.number ≤ number
      → level < level_of clustering history x.id → x.id.number ≤ r.id.number

-- An entry of e is, of the events of a member of e that reach e, the last one with a greater level
-- than that of e: by it came what e knows of the traces that are no members.
pub record IsEntry (types : TypeTable) (clustering : Clustering) (history : List EventBlock)
    (e r : Event) : Type 0 where
  pub member : is_member clustering history e.id r.id.trace ≡ true
  pub number : ℕ
  pub clock : IsClock types (all_events history) e r.id.trace number
  pub last : IsLastAbove clustering history r.id.trace (level_of clustering history e.id) number r

-- the greatest of the clocks that the entries of e have for a trace, and 0 where e has no entry
pub record IsGreatestOfEntries (types : TypeTable) (clustering : Clustering)
    (history : List EventBlock) (e : Event) (trace n : ℕ) : Type 0 where
  pub each : (r : Event) (m : ℕ) → IsEntry types clustering history e r
      → IsClock types (all_events history) r trace m → m ≤ n
  pub one : (n ≡ 0) ⊎ ((r : Event) × IsEntry types clustering history e r
      × IsClock types (all_events history) r trace n)
