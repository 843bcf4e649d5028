use Rattle.std.specs.Prelude.{◌≡◌, ℕ, ◌==◌, ◌+◌, ◌<◌, ◌⊎◌, List, [], ◌∷◌, Contains, count_by}
use Rattle.std.specs.List.{flat_map}
use Rattle.causal_base.specs.declared.event.Event.{Event}
use Rattle.causal_base.specs.declared.kind.Kind.TheVariants.{Unary, Send}
use Rattle.causal_base.specs.Types.{TypeTable}
use Rattle.causal_base.specs.Event.{IsOfKind, Fits, Pairs}

-- What is delivered at one moment: one event, or two partners.
pub data EventBlock : Type 0 where
  alone : Event → EventBlock
  together : Event → Event → EventBlock

-- its events
abbrev pub events_of : EventBlock → List Event
events_of (alone e) = e ∷ []
events_of (together a b) = b ∷ a ∷ []

-- the events of deliveries, in the order of the deliveries
abbrev pub all_events : List EventBlock → List Event
all_events deliveries = flat_map events_of deliveries

-- how many of the events lie on this trace
abbrev pub count_on : ℕ → List Event → ℕ
count_on trace events = count_by (λ e. e.id.trace == trace) events

-- all events of its trace that are numbered below it are there, and it isn't
abbrev pub IsNextOfTrace : List Event → Event → Type 0
IsNextOfTrace events e = e.id.number ≡ count_on e.id.trace events + 1

-- it waits for no other trace: a unary event, a send, or what fits one of the events
abbrev pub IsReady : TypeTable → List Event → Event → Type 0
IsReady types events e =
    IsOfKind types e Unary ⊎ (IsOfKind types e Send
    ⊎ ((cause : Event) × Contains events cause × Fits types e cause))

-- A delivery may follow deliveries when each of its events is the next of its trace, and it is one
-- event that waits for no other trace, or a pair with the lower trace first.
abbrev pub MayFollow : TypeTable → List EventBlock → EventBlock → Type 0
MayFollow types past (alone e) = IsNextOfTrace (all_events past) e
    × IsReady types (all_events past) e
MayFollow types past (together a b) =
    IsNextOfTrace (all_events past) a × IsNextOfTrace (all_events past) b × Pairs types a b
    × (a.id.trace < b.id.trace)

-- Deliveries, newest first, of which each may follow those before it.
abbrev pub IsCausal : TypeTable → List EventBlock → Type 0
IsCausal types [] = Unit {0}
IsCausal types (d ∷ past) = MayFollow types past d × IsCausal types past
