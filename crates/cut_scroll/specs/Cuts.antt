-- Cuts: how far each trace has come. Here a cut is a count for each trace.
use Rattle.std.specs.Prelude.{◌≡◌, ℕ, ◌<◌, ◌≤◌, min, max, List, [], ◌∷◌, length, Contains, slice_index}
use Rattle.causal_base.specs.declared.event.Event.{Event}
use Rattle.causal_base.specs.declared.event_id.EventId.{EventId}
use Rattle.causal_base.specs.History.{count_on}
use Rattle.causal_base.specs.Types.{TypeTable}
use Rattle.causal_base.specs.Walks.{Reaches}

-- the event with this id is in the cut, which holds the events with numbers up to its counts
abbrev pub IsIn : List ℕ → EventId → Type 0
IsIn cut id = id.number ≤ slice_index cut id.trace

-- no count of the one is above that of the other
abbrev pub IsWithin : List ℕ → List ℕ → Type 0
IsWithin cut other = (trace : ℕ) → slice_index cut trace ≤ slice_index other trace

-- A cut of events has a count for each trace, none above how many of the events the trace has.
pub record IsCut (types : TypeTable) (events : List Event) (cut : List ℕ) : Type 0 where
  pub traces : length cut ≡ types.traces
  pub within : (trace : ℕ) → trace < types.traces → slice_index cut trace ≤ count_on trace events

-- A cut is consistent where it has every event that reaches one in it.
pub record IsConsistent (types : TypeTable) (events : List Event) (cut : List ℕ) : Type 0 where
  pub is_cut : IsCut types events cut
  pub whole : (x e : Event) → Reaches types events x e → IsIn cut e.id → IsIn cut x.id

-- The cut after it is the least consistent one that has all of the cut before it, and this event.
pub record IsLeastWith (types : TypeTable) (events : List Event) (before : List ℕ) (e : Event)
    (after : List ℕ) : Type 0 where
  pub consistent : IsConsistent types events after
  pub all : IsWithin before after
  pub has : IsIn after e.id
  pub least : (other : List ℕ) → IsConsistent types events other → IsWithin before other
      → IsIn other e.id → IsWithin after other

-- The cut after it is the greatest consistent one within the cut before it that hasn't this event.
pub record IsGreatestWithout (types : TypeTable) (events : List Event) (before : List ℕ) (e : Event)
    (after : List ℕ) : Type 0 where
  pub consistent : IsConsistent types events after
  pub within : IsWithin after before
  pub without : IsIn after e.id → ⊥
  pub greatest : (other : List ℕ) → IsConsistent types events other → IsWithin other before
      → (IsIn other e.id → ⊥) → IsWithin other after

-- a cut moves so for the event with this id, which is one of the events
abbrev pub MovesFor : List Event → EventId → (Event → Type 0) → Type 0
MovesFor events id Moves = (e : Event) × Contains events e × (e.id ≡ id) × Moves e

-- the greater of the counts of two cuts, for each trace
abbrev pub joined : List ℕ → List ℕ → List ℕ
joined [] others = []
joined (n ∷ cut) [] = []
joined (n ∷ cut) (m ∷ other) = max n m ∷ joined cut other

-- the lesser of them
abbrev pub met : List ℕ → List ℕ → List ℕ
met [] others = []
met (n ∷ cut) [] = []
met (n ∷ cut) (m ∷ other) = min n m ∷ met cut other
