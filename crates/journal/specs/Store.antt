use Rattle.std.specs.Prelude.{◌≡◌, ◌≤◌, ◌<◌, ◌+◌, ◌*◌, ℕ, List, length, reverse, All, IsSome, slice_index}
use Rattle.causal_base.specs.declared.event.Event.{Event}
use Rattle.causal_base.specs.declared.limits.TheConstants.{MOST_COLLECTORS, MOST_EVENTS, MOST_TRACES}
use Rattle.causal_base.specs.History.{count_on}
use Rattle.causal_base.specs.Past.{came, delivered}
use Rattle.trace_queue.specs.Held.{count_held}
use Rattle.journal.specs.declared.mark.Mark.{Mark}
use Rattle.journal.specs.Marks.{entry_of, entries_of}
use Rattle.journal.specs.Places.{PlaceIndex, HasPlaces}

-- What is kept of a journal agrees: each mark stands for an entry, the events are those that came,
-- each is found by its id, the counts are right, and there is room for the delivery of each event
-- and for the end of each collector.
pub record IsStore (events : List Event) (marks : List Mark) (room : ℕ) (index : PlaceIndex)
    (counts : List ℕ) (gone : ℕ) : Type 0 where
  pub whole : All (λ mark. IsSome (entry_of events mark)) marks
  pub came_in : came (reverse (entries_of events marks)) ≡ reverse events
  pub places : HasPlaces events index
  pub counts_are : (trace : ℕ) → trace < MOST_TRACES → slice_index counts trace
      ≡ count_on trace (delivered (reverse (entries_of events marks)))
  pub gone_is : gone ≡ length (delivered (reverse (entries_of events marks)))
  pub enough : 2 * length events + MOST_COLLECTORS ≤ room
  pub within : length marks ≤ 2 * length events + MOST_COLLECTORS
  pub few : length events ≤ MOST_EVENTS
  pub early_few : count_held index.early ≤ length events
