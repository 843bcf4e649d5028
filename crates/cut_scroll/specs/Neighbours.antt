-- The nearest events of a trace before and after an event. A partner is neither.
use Rattle.std.specs.Prelude.{◌≡◌, ℕ, ◌≤◌, List, Contains, Option, None, Some}
use Rattle.causal_base.specs.declared.event.Event.{Event}
use Rattle.causal_base.specs.declared.event_id.EventId.{EventId}
use Rattle.causal_base.specs.Types.{TypeTable}
use Rattle.causal_base.specs.Walks.{IsBefore}

-- the event is one of the events of a trace
pub record IsOn (events : List Event) (trace : ℕ) (x : Event) : Type 0 where
  pub among : Contains events x
  pub on : x.id.trace ≡ trace

-- Of the events of a trace that are before e, the last one.
pub record IsGreatestBefore (types : TypeTable) (events : List Event) (e : Event) (trace : ℕ)
    (x : Event) : Type 0 where
  pub is_on : IsOn events trace x
  pub before : IsBefore types events x e
  pub greatest : (y : Event) → IsOn events trace y → IsBefore types events y e
      → y.id.number ≤ x.id.number

-- Of the events of a trace that e is before, the first one.
pub record IsLeastAfter (types : TypeTable) (events : List Event) (e : Event) (trace : ℕ)
    (x : Event) : Type 0 where
  pub is_on : IsOn events trace x
  pub after : IsBefore types events e x
  pub least : (y : Event) → IsOn events trace y → IsBefore types events e y
      → x.id.number ≤ y.id.number

-- the id is that of the greatest event of the trace before e, and there is none where none is
-- before it
abbrev pub NamesGreatestBefore : TypeTable → List Event → ℕ → Option EventId → Event → Type 0
NamesGreatestBefore types events trace None e =
    (x : Event) → IsOn events trace x → IsBefore types events x e → ⊥
NamesGreatestBefore types events trace (Some id) e =
    (x : Event) × IsGreatestBefore types events e trace x × (x.id ≡ id)

-- the id is that of the least event of the trace after e, and there is none where none is after it
abbrev pub NamesLeastAfter : TypeTable → List Event → ℕ → Option EventId → Event → Type 0
NamesLeastAfter types events trace None e =
    (x : Event) → IsOn events trace x → IsBefore types events e x → ⊥
NamesLeastAfter types events trace (Some id) e =
    (x : Event) × IsLeastAfter types events e trace x × (x.id ≡ id)
