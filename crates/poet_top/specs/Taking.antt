-- How one thread takes the events that a reader hands out into a plain list.
use Rattle.std.specs.Prelude.{◌≤◌, ℕ, List, [], ◌++◌, length}
use Rattle.causal_base.specs.declared.entry.Entry.{Entry}
use Rattle.causal_base.specs.declared.event.Event.{Event}
use Rattle.causal_base.specs.declared.event_id.EventId.{EventId}
use Rattle.causal_base.specs.Types.{TypeTable}
use Rattle.causal_base.specs.Past.{HasEvent}
use Rattle.causal_base.specs.Journal.{IsLegal, came_by}
use Rattle.causal_base.specs.InTurn.{TakesInTurn}
use Rattle.raw_reader.specs.ReaderState.{ReaderState}
use Rattle.raw_reader.specs.Texts.{events_of, IsGoodText}
use Rattle.causal_base.specs.declared.limits.TheConstants.{MOST_EVENTS, MOST_PLAIN_EVENTS}

-- events with the same ids
pub record HaveSameIds (some others : List Event) : Type 0 where
  pub forth : (id : EventId) → HasEvent some id → HasEvent others id
  pub back : (id : EventId) → HasEvent others id → HasEvent some id

-- Taking these events from the one journal and then others is as taking the others from the other
-- journal.
abbrev pub TookInTurn : TypeTable → List Event → List Entry → List Entry → Type 0
TookInTurn types events before between = (others : List Event) (after : List Entry)
    → TakesInTurn types MOST_EVENTS 0 others between after
    → TakesInTurn types MOST_EVENTS 0 (events ++ others) before after

-- One thread has made this journal of these events, and goes on: the ids that came are theirs, and
-- no more than the plain list takes.
pub record HasTaken (types : TypeTable) (events : List Event) (journal : List Entry) : Type 0 where
  pub took : TookInTurn types events [] journal
  pub legal : IsLegal types journal
  pub same_ids : HaveSameIds (came_by journal) events
  pub few : length (came_by journal) ≤ MOST_PLAIN_EVENTS

-- A reader that has read these bytes has handed out batches, and one thread has made this journal
-- of their events.
pub record HasTakenFrom (Stands : ReaderState → List ℕ → List (List Event) → Type 0)
    (reader : ReaderState) (fed : List ℕ) (journal : List Entry) : Type 0 where
  pub taken : List (List Event)
  pub stands : Stands reader fed taken
  pub events : HasTaken reader.types (events_of taken) journal

-- The bytes are a good text, and one thread has made this journal of the events of its batches.
pub record HasTakenAll (types : TypeTable) (bytes : List ℕ) (journal : List Entry) : Type 0 where
  pub batches : List (List Event)
  pub good : IsGoodText types bytes batches
  pub events : HasTaken types (events_of batches) journal
