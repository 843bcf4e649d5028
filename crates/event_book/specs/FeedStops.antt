-- Why a batch wasn't taken to its end, and what was done before.
use Rattle.std.specs.Prelude.{ℕ, List}
use Rattle.causal_base.specs.declared.entry.Entry.{Entry}
use Rattle.causal_base.specs.declared.event.Event.{Event}
use Rattle.causal_base.specs.Types.{TypeTable}
use Rattle.event_book.specs.declared.report.FeedStop.{FeedStop}
use Rattle.event_book.specs.declared.report.FeedStop.TheVariants.{Full, Oom}
use Rattle.event_book.specs.Feeding.{IsCutShort, IsFull}

abbrev pub IsFeedStop : TypeTable → ℕ → List Event → List Entry → List Entry → FeedStop → Type 0
IsFeedStop types collector events before after (Full id report) =
    IsFull types collector events before after id report
IsFeedStop types collector events before after (Oom done report) =
    IsCutShort types collector events before after done report
