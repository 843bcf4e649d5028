-- Why the events of a batch weren't taken to their end.
use Rattle.std.specs.Prelude.{◌≡◌, ℕ, List}
use Rattle.causal_base.specs.declared.entry.Entry.{Entry}
use Rattle.causal_base.specs.declared.event.Event.{Event}
use Rattle.causal_base.specs.declared.limits.TheConstants.{MOST_EVENTS}
use Rattle.causal_base.specs.Types.{TypeTable}
use Rattle.causal_base.specs.InTurn.{MeetsLimit, SettlesTo}
use Rattle.event_book.specs.declared.feeding.Stop.{Stop}
use Rattle.event_book.specs.declared.feeding.Stop.TheVariants.{Full, Oom}
use Rattle.event_book.specs.declared.report.FeedReport.{FeedReport}
use Rattle.event_book.specs.Counted.{count_of}
use Rattle.event_book.specs.Feeding.{Delivers, IsFull, IsTakenSoFar}

-- one event
abbrev pub IsStoppedAt : TypeTable → Event → List Entry → List Entry → Stop → Type 0
IsStoppedAt types e before after (Full id) =
    (id ≡ e.id) × MeetsLimit MOST_EVENTS after e × SettlesTo types before after
IsStoppedAt types e before after Oom = Delivers types before after

-- all of them
abbrev pub IsStoppedBy : TypeTable → ℕ → List Event → List Entry → List Entry → FeedReport → Stop
    → Type 0
IsStoppedBy types collector events before after report (Full id) =
    IsFull types collector events before after id report
IsStoppedBy types collector events before after report Oom =
    IsTakenSoFar types collector events before after (count_of report) report
