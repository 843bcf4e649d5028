use Rattle.std.specs.Prelude.{◌≡◌, ◌≤◌, ◌<◌, ℕ, List, reverse, Option, None, slice_get, slice_index, option_and_then, cond, nat_le}
use Rattle.shared_list.specs.Shared.{Shared}
use Rattle.causal_base.specs.declared.entry.Entry.{Entry}
use Rattle.causal_base.specs.declared.event.Event.{Event}
use Rattle.causal_base.specs.declared.event_id.EventId.{EventId}
use Rattle.causal_base.specs.declared.limits.TheConstants.{MOST_TRACES}
use Rattle.causal_base.specs.History.{count_on}
use Rattle.causal_base.specs.Past.{came, delivered, event_of}
use Rattle.journal.specs.Places.{place_in_order}

-- Events that came, where they lie, and how many of each trace are delivered.
pub record DeliveredEvents : Type 0 where
  pub events : List Event
  pub in_order : List (Shared ℕ)
  pub counts : List ℕ

-- the delivered event with this id
abbrev pub delivered_at : DeliveredEvents → EventId → Option Event
delivered_at shared id = cond (nat_le id.number (slice_index shared.counts id.trace))
    (option_and_then (slice_get shared.events) (place_in_order shared.in_order id)) None

-- They are the delivered events of a journal: of each trace the events that came with numbers up to
-- its count.
pub record AreOfJournal (journal : List Entry) (shared : DeliveredEvents) : Type 0 where
  pub counts_are : (trace : ℕ) → trace < MOST_TRACES → slice_index shared.counts trace
      ≡ count_on trace (delivered (reverse journal))
  pub found : (id : EventId) → id.trace < MOST_TRACES → 1 ≤ id.number
      → id.number ≤ count_on id.trace (delivered (reverse journal))
      → delivered_at shared id ≡ event_of (came (reverse journal)) id
