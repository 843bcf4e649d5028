-- What contracts see in a view, and the journals that it stands for.
use Rattle.std.specs.Prelude.{◌≡◌, ℕ, ◌<◌, ◌↔◌, Bool, IsTrue, List, length, reverse}
use Rattle.causal_base.specs.declared.entry.Entry.{Entry}
use Rattle.causal_base.specs.Journal.{came_by}
use Rattle.causal_base.specs.Past.{HasEnded}
use Rattle.causal_base.specs.Stamps.{ClusterTimestamp}
use Rattle.journal.specs.Delivered.{DeliveredEvents, AreOfJournal}
use Rattle.event_book.specs.declared.setup.Setup.{Setup}
use Rattle.event_book.specs.Setups.{clustering_of, IsJournalOf, IsSetup}
use Rattle.event_book.specs.Stamping.{HasStamps}

-- How the desk was made, its delivered events and their stamps, how many entries its journal had
-- and how many events came, and whether all collectors had ended.
pub record ViewState : Type 0 where
  pub setup : Setup
  pub delivered : DeliveredEvents
  pub stamps : List (List ClusterTimestamp)
  pub seen : ℕ
  pub accepted : ℕ
  pub all_ended : Bool

-- each collector of a desk has ended
abbrev pub HaveAllEnded : ℕ → List Entry → Type 0
HaveAllEnded collectors journal =
    (collector : ℕ) → collector < collectors → HasEnded (reverse journal) collector

-- The view is one of this journal.
pub record IsViewOf (view : ViewState) (journal : List Entry) : Type 0 where
  pub is_setup : IsSetup view.setup
  pub is_journal : IsJournalOf view.setup journal
  pub events : AreOfJournal journal view.delivered
  pub has_stamps : HasStamps view.setup.types (clustering_of view.setup) journal view.stamps
  pub seen_is : view.seen ≡ length journal
  pub accepted_is : view.accepted ≡ length (came_by journal)
  pub ended_are : IsTrue view.all_ended ↔ HaveAllEnded view.setup.collectors journal
