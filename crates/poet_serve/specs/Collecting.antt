-- What a collector leaves: its report, and its part of the journal.
use Rattle.std.specs.Prelude.{◌≡◌, ◌≤◌, ℕ, List, [], ◌∷◌, ◌++◌, length, take}
use Rattle.std.specs.List.{AllByRecursion}
use Rattle.causal_base.specs.declared.entry.Entry.{Entry}
use Rattle.causal_base.specs.declared.entry.Entry.TheVariants.{Ended}
use Rattle.causal_base.specs.declared.event.Event.{Event}
use Rattle.causal_base.specs.declared.event_id.EventId.{EventId}
use Rattle.causal_base.specs.declared.limits.TheConstants.{MOST_EVENTS}
use Rattle.causal_base.specs.Journal.{came_by}
use Rattle.causal_base.specs.Past.{HasEvent}
use Rattle.causal_base.specs.Types.{TypeTable}
use Rattle.event_book.specs.declared.report.FeedReport.{FeedReport}
use Rattle.event_book.specs.Feeding.{no_report}
use Rattle.poet_io.specs.SourceState.{SourceState}
use Rattle.poet_serve.specs.declared.limits.TheConstants.{MOST_CLASHES_NAMED}
use Rattle.poet_serve.specs.declared.report.CollectorReport.{CollectorReport}
use Rattle.poet_serve.specs.declared.report.Stop.{Stop}
use Rattle.poet_serve.specs.declared.report.Stop.TheVariants.{Full}
use Rattle.poet_serve.specs.Bringing.{Brings, IsOfAnother}
use Rattle.poet_serve.specs.Reading.{IsReadOf}

-- What is told of the events that a collector brought: how many were accepted, were repeats and
-- clashed, the first ids of those that clashed, and why it stopped.
pub record Told : Type 0 where
  pub accepted : ℕ
  pub repeats : ℕ
  pub clashes : ℕ
  pub first : List EventId
  pub stop : Stop

-- what a report tells
abbrev pub told_by : {S : Type 0} → CollectorReport S → Told
told_by report = record {
  accepted = report.accepted;
  repeats = report.repeats;
  clashes = report.clashes;
  first = report.first;
  stop = report.stop;
}

-- it is told of these counts
abbrev pub told_of : FeedReport → Stop → Told
told_of counted stop = record {
  accepted = counted.accepted;
  repeats = counted.repeats;
  clashes = length counted.clashes;
  first = take MOST_CLASHES_NAMED counted.clashes;
  stop = stop;
}

-- where it stopped at the limit, as many events came as may, and none with this id
abbrev pub MeetsLimitAt : List Entry → Stop → Type 0
MeetsLimitAt journal (Full id) = (MOST_EVENTS ≤ length (came_by journal))
    × ¬ HasEvent (came_by journal) id
MeetsLimitAt journal stop = Unit {0}

-- The part of a collector in a journal: it read events of its source and brought them, its end
-- stands behind them, and nothing of it behind that.
pub record IsPartOf (types : TypeTable) (journal : List Entry) (collector : ℕ)
    (before after : SourceState) (told : Told) : Type 0 where
  pub events : List Event
  pub read : IsReadOf types before after told.stop events
  pub counted : FeedReport
  pub until_end : List Entry
  pub brings : Brings collector events [] no_report until_end counted
  pub told_is : told ≡ told_of counted told.stop
  pub behind : List Entry
  pub whole : journal ≡ until_end ++ Ended collector ∷ behind
  pub nothing_more : AllByRecursion (IsOfAnother collector) behind
  pub limit : MeetsLimitAt journal told.stop
