use Rattle.std.specs.Prelude.{◌≡◌, ℕ, ◌<◌, ◌↔◌, List, Bool, IsTrue, All, Contains, count_by, slice_index}
use Rattle.causal_base.specs.declared.event.Event.{Event}
use Rattle.causal_base.specs.declared.event_id.EventId.{EventId}
use Rattle.causal_base.specs.Types.{TypeTable}
use Rattle.causal_base.specs.Walks.{Reaches}

-- How many elements have a property: some test decides the property on the list, and so many pass
-- the test.
pub record HasCount {A : Type 0} (Property : A → Type 0) (elements : List A) (number : ℕ)
    : Type 0 where
  pub test : A → Bool
  pub decides : All (λ x. IsTrue (test x) ↔ Property x) elements
  pub number_is : count_by test elements ≡ number

-- The clock of an event for a trace: how many events of that trace reach it. Fidge 1988, Mattern
-- 1989.
abbrev pub IsClock : TypeTable → List Event → Event → ℕ → ℕ → Type 0
IsClock types events e trace number =
    HasCount (λ x. (x.id.trace ≡ trace) × Reaches types events x e) events number

-- An event with this id is there, and this is its clock for the trace.
pub record HasClock (types : TypeTable) (events : List Event) (id : EventId) (trace n : ℕ)
    : Type 0 where
  pub e : Event
  pub among : Contains events e
  pub id_is : e.id ≡ id
  pub clock : IsClock types events e trace n

-- the numbers are its clock, one for each trace
abbrev pub HasClocks : TypeTable → List Event → EventId → List ℕ → Type 0
HasClocks types events id clock = (trace : ℕ) → trace < types.traces
    → HasClock types events id trace (slice_index clock trace)
