-- What makes a cut consistent, trace by trace, and what an event leaves of one.
use Rattle.std.specs.Prelude.{◌≡◌, ℕ, ◌<◌, ◌≤◌, ◌↔◌, List, Contains, slice_index}
use Rattle.causal_base.specs.declared.event.Event.{Event}
use Rattle.causal_base.specs.declared.event_id.EventId.{EventId}
use Rattle.causal_base.specs.History.{count_on}
use Rattle.causal_base.specs.Types.{TypeTable}
use Rattle.causal_base.specs.Walks.{Reaches}
use Rattle.cut_scroll.specs.Cuts.{IsIn}

-- the cut has all that reaches the event with this id
abbrev pub HasPastOf : TypeTable → List Event → List ℕ → EventId → Type 0
HasPastOf types events cut id =
    (x e : Event) → e.id ≡ id → Reaches types events x e → IsIn cut x.id

-- The cut has no more of a trace than there is, and all that reaches what it has of the trace.
pub record IsWholeOn (types : TypeTable) (events : List Event) (cut : List ℕ) (trace : ℕ)
    : Type 0 where
  pub most : slice_index cut trace ≤ count_on trace events
  pub past : (x e : Event) → Reaches types events x e → e.id.trace ≡ trace → IsIn cut e.id
      → IsIn cut x.id

-- Of the first events of a trace, up to the number most, the event e doesn't reach so many, and it
-- reaches those after them.
pub record IsUnreached (types : TypeTable) (events : List Event) (e : Event) (trace most number : ℕ)
    : Type 0 where
  pub within : number ≤ most
  pub from : (x : Event) → Contains events x → x.id.trace ≡ trace → x.id.number ≤ most
      → (Reaches types events e x) ↔ (number < x.id.number)
