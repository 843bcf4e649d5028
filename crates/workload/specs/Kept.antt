-- What is kept of each trace while a list of events is made.
use Rattle.std.specs.Prelude.{◌≡◌, ℕ, ◌<◌, List, length, slice_index, slice_index_or, Option}
use Rattle.causal_base.specs.declared.event.Event.{Event}
use Rattle.causal_base.specs.declared.event_id.EventId.{EventId}
use Rattle.causal_base.specs.History.{count_on}
use Rattle.workload.specs.Workload.{last_send}

-- They are the numbers of events of each trace, and the last send of each.
pub record AreKept (events : List Event) (counts : List ℕ) (sends : List (Option EventId))
    : Type 0 where
  pub traces : length sends ≡ length counts
  pub counted : (trace : ℕ) → trace < length counts
      → slice_index counts trace ≡ count_on trace events
  pub sent : (trace : ℕ) (default : Option EventId) → trace < length sends
      → slice_index_or sends trace default ≡ last_send events trace
