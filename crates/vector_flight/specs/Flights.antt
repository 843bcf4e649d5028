-- What is kept of delivered events for the clock of the next one.
use Rattle.std.specs.Prelude.{◌≡◌, ℕ, ◌<◌, ◌≤◌, Bool, List, [], ◌∷◌, length, Contains, Option, None, Some, IfSome, slice_index, slice_index_or}
use Rattle.causal_base.specs.declared.event.Event.{Event}
use Rattle.causal_base.specs.declared.event_id.EventId.{EventId}
use Rattle.causal_base.specs.Types.{TypeTable}
use Rattle.causal_base.specs.Clocks.{HasClocks}
use Rattle.causal_base.specs.History.{EventBlock, alone, together, events_of, all_events, count_on, IsCausal}

-- The newest clock of each trace; the clocks of sends by their ids, or none where there is room for
-- one that is to come; and how many more deliveries can be kept without memory.
pub record InFlight : Type 0 where
  pub newest : List (List ℕ)
  pub sends : List (EventId × Option (List ℕ))
  pub spare : ℕ

-- the newest clock of a trace
abbrev pub newest_of : List (List ℕ) → ℕ → List ℕ
newest_of newest trace = slice_index_or newest trace []

-- the id of the last event of a trace, where it has one
abbrev pub last_id : List Event → ℕ → EventId
last_id events trace = record { trace = trace; number = count_on trace events }

-- The clock is that of the last event of the trace, and all zeros where it has none.
pub record IsNewestClock (types : TypeTable) (events : List Event) (trace : ℕ) (clock : List ℕ)
    : Type 0 where
  pub as_many : length clock ≡ types.traces
  pub own : slice_index clock trace ≡ count_on trace events
  pub last : 1 ≤ count_on trace events → HasClocks types events (last_id events trace) clock
  pub none : count_on trace events ≡ 0 → (other : ℕ) → slice_index clock other ≡ 0

-- these are the newest clocks of the traces
abbrev pub AreNewestClocks : TypeTable → List Event → List (List ℕ) → Type 0
AreNewestClocks types events newest = (trace : ℕ) → trace < types.traces
    → IsNewestClock types events trace (newest_of newest trace)

-- the clocks that are there are those of the events with these ids
abbrev pub AreSentClocks : TypeTable → List Event → List (EventId × Option (List ℕ)) → Type 0
AreSentClocks types events sends = (id : EventId) (clock : List ℕ)
    → Contains sends (id, Some clock) → HasClocks types events id clock

-- What is in flight stands for these deliveries, the newest first: it has the newest clock of each
-- trace, and the clocks of sends that it has are theirs.
pub record IsFlightOf (types : TypeTable) (history : List EventBlock) (flight : InFlight)
    : Type 0 where
  pub traces : length flight.newest ≡ types.traces
  pub newest_clocks : AreNewestClocks types (all_events history) flight.newest
  pub sent_clocks : AreSentClocks types (all_events history) flight.sends

-- The ids of the events that are delivered next, whether their clock is kept as that of a send, and
-- their clock.
pub record NextClock : Type 0 where
  pub first : EventId
  pub second : Option EventId
  pub sent : Bool
  pub clock : List ℕ

-- one event, or two together
abbrev pub block_of : Event → Option Event → EventBlock
block_of first None = alone first
block_of first (Some second) = together first second

-- the id of its first event
abbrev pub first_id : EventBlock → EventId
first_id (alone e) = e.id
first_id (together a b) = a.id

-- and of the second, where it has one
abbrev pub second_id : EventBlock → Option EventId
second_id (alone e) = None
second_id (together a b) = Some b.id

-- The block may be delivered next after these deliveries, and the clock is that of its events then.
pub record IsAheadOf (types : TypeTable) (history : List EventBlock) (block : EventBlock)
    (ahead : NextClock) : Type 0 where
  pub causal : IsCausal types (block ∷ history)
  pub first_is : ahead.first ≡ first_id block
  pub second_is : ahead.second ≡ second_id block
  pub clock_is : (e : Event) → Contains (events_of block) e
      → HasClocks types (all_events (block ∷ history)) e.id ahead.clock

-- The clock has so many numbers, and the events are on traces below that.
pub record IsOfTraces (traces : ℕ) (ahead : NextClock) : Type 0 where
  pub as_many : length ahead.clock ≡ traces
  pub first_on : ahead.first.trace < traces
  pub second_on : IfSome ahead.second (λ id. id.trace < traces)
