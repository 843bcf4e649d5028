-- How going back through a journal finds the clock of an event.
use Rattle.std.specs.Prelude.{◌≡◌, ℕ, ◌+◌, ◌≤◌, ◌⊎◌, ◌↔◌, List, length, reverse, take, Contains, Bool, true, nat_le, slice_index, Option, Some, MatchOption}
use Rattle.causal_base.specs.declared.entry.Entry.{Entry}
use Rattle.causal_base.specs.declared.event.Event.{Event}
use Rattle.causal_base.specs.declared.event_id.EventId.{EventId}
use Rattle.causal_base.specs.Types.{TypeTable}
use Rattle.causal_base.specs.Walks.{Reaches}
use Rattle.causal_base.specs.History.{count_on}
use Rattle.causal_base.specs.Past.{delivered}

-- the id is on the same trace as this one, and its number is no greater
abbrev pub IsUpTo : EventId → EventId → Type 0
IsUpTo last id = (id.trace ≡ last.trace) × (id.number ≤ last.number)

-- the number of the id is within the number that the clock has for its trace
abbrev pub is_within : List ℕ → EventId → Bool
is_within clock id = nat_le id.number (slice_index clock id.trace)

-- How far going back for the clock of an event has come: what is within the numbers so far reaches
-- the event, and what reaches it is within them, or reaches one within them among the older events,
-- which were not looked at yet.
pub record IsClockSoFar (types : TypeTable) (events older : List Event) (end : Event)
    (clock : List ℕ) : Type 0 where
  pub sound : (x : Event) → Contains events x → is_within clock x.id ≡ true
      → Reaches types events x end
  pub complete : (x : Event) → Reaches types events x end → (is_within clock x.id ≡ true)
      ⊎ ((y : Event) × Contains older y × (is_within clock y.id ≡ true) × Reaches types older x y)
  pub most : (trace : ℕ) → slice_index clock trace ≤ count_on trace events

-- what is within the clock are the ids of the events that reach this one
abbrev pub TellsReach : TypeTable → List Event → Event → List ℕ → Type 0
TellsReach types events end clock = (x : Event) → Contains events x
    → (is_within clock x.id ≡ true) ↔ Reaches types events x end

-- The clock has the ids within that it had, and those up to this one.
pub record Raises (id : EventId) (before after : List ℕ) : Type 0 where
  pub same_length : length after ≡ length before
  pub within : (other : EventId) → (is_within after other ≡ true)
      ↔ ((is_within before other ≡ true) ⊎ IsUpTo id other)

-- it has the id that an event names within besides, where it names one
abbrev pub RaisesMate : Option EventId → List ℕ → List ℕ → Type 0
RaisesMate mate before after = MatchOption mate (after ≡ before) (λ id. Raises id before after)

-- The clock has within what it had, the events, and what they name, and nothing else but what
-- stands before these on their traces.
pub record RaisesCauses (events : List Event) (before after : List ℕ) : Type 0 where
  pub kept : (id : EventId) → is_within before id ≡ true → is_within after id ≡ true
  pub own : (e : Event) → Contains events e → is_within after e.id ≡ true
  pub named : (e : Event) → Contains events e → (id : EventId) → e.mate ≡ Some id
      → is_within after id ≡ true
  pub no_other : (id : EventId) → is_within after id ≡ true → (is_within before id ≡ true)
      ⊎ ((e : Event) × Contains events e
      × (IsUpTo e.id id ⊎ ((mate : EventId) × (e.mate ≡ Some mate) × IsUpTo mate id)))

-- going back over the entry at this place
abbrev pub GoesBack : TypeTable → List Entry → ℕ → Event → List ℕ → List ℕ → Type 0
GoesBack types journal place end before after =
    IsClockSoFar types (delivered (reverse journal))
    (delivered (reverse (take (place + 1) journal)))
    end before
    → IsClockSoFar types (delivered (reverse journal)) (delivered (reverse (take place journal)))
    end after
