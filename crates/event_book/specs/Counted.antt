-- A report that is being made.
use Rattle.std.specs.Prelude.{ℕ, ◌+◌, length}
use Rattle.event_book.specs.declared.report.FeedReport.{FeedReport}

-- the report so far, and for how many more clashes there is room
pub record CountingState : Type 0 where
  pub report : FeedReport
  pub room : ℕ

-- of how many events a report tells
abbrev pub count_of : FeedReport → ℕ
count_of report = report.accepted + report.repeats + length report.clashes
