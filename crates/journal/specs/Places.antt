-- Where the events that came lie, by their ids.
use Rattle.std.specs.Prelude.{ℕ, zero, suc, List, Option, None, Some, slice_get, option_and_then, ◌≡◌}
use Rattle.std.specs.Option.{option_or}
use Rattle.shared_list.specs.Shared.{Shared}
use Rattle.trace_queue.specs.Held.{HeldValues, held_at}
use Rattle.causal_base.specs.declared.event.Event.{Event}
use Rattle.causal_base.specs.declared.event_id.EventId.{EventId}

-- The places of the events of each trace, in the order of their numbers from 1 on; and those of
-- events that came before one of their trace with a lower number did.
pub record PlaceIndex : Type 0 where
  pub in_order : List (Shared ℕ)
  pub early : HeldValues ℕ

-- the place with this number, counted from 1
abbrev pub at_number : List ℕ → ℕ → Option ℕ
at_number places zero = None
at_number places (suc before) = slice_get places before

-- the place among those that are in order
abbrev pub place_in_order : List (Shared ℕ) → EventId → Option ℕ
place_in_order in_order id = option_and_then (λ list. at_number list.items id.number)
    (slice_get in_order id.trace)

-- the place of the event with this id
abbrev pub place_of : PlaceIndex → EventId → Option ℕ
place_of index id = option_or (place_in_order index.in_order id) (held_at index.early id)

-- It has the places of these events, and no others.
pub record HasPlaces (events : List Event) (index : PlaceIndex) : Type 0 where
  pub sound : (id : EventId) (place : ℕ) → place_of index id ≡ Some place
      → (e : Event) × (slice_get events place ≡ Some e) × (e.id ≡ id)
  pub complete : (place : ℕ) (e : Event) → slice_get events place ≡ Some e
      → place_of index e.id ≡ Some place

-- each id has the place that it had
abbrev pub HasSamePlaces : PlaceIndex → PlaceIndex → Type 0
HasSamePlaces old new = (id : EventId) → place_of new id ≡ place_of old id
