-- What becomes of the events that a collector brings.
use Rattle.std.specs.Prelude.{◌≡◌, ℕ, ◌+◌, ◌<◌, ◌⊎◌, List, [], ◌∷◌, ◌++◌, length, Contains, Option, None, Some}
use Rattle.std.specs.List.{AllByRecursion}
use Rattle.causal_base.specs.declared.entry.Entry.{Entry}
use Rattle.causal_base.specs.declared.entry.Entry.TheVariants.{Came}
use Rattle.causal_base.specs.declared.event.Event.{Event}
use Rattle.causal_base.specs.declared.event_id.EventId.{EventId}
use Rattle.causal_base.specs.declared.limits.TheConstants.{MOST_EVENTS}
use Rattle.causal_base.specs.Types.{TypeTable}
use Rattle.causal_base.specs.InTurn.{DeliversSomething, MeetsLimit, SettlesTo}
use Rattle.causal_base.specs.Journal.{IsLegal, IsSettled, came_by}
use Rattle.causal_base.specs.Past.{HasEvent}
use Rattle.event_book.specs.declared.report.FeedReport.{FeedReport}

-- A journal goes on by deliveries alone, each of them Next, perhaps by none.
pub record Delivers (types : TypeTable) (before after : List Entry) : Type 0 where
  pub more : List Entry
  pub goes_on : after ≡ before ++ more
  pub delivers : AllByRecursion DeliversSomething more
  pub legal : IsLegal types after

-- An event whose id is new comes, where fewer came than may, and is counted as accepted.
pub record IsAccepted (collector : ℕ) (e : Event) (before after : List Entry)
    (counted report : FeedReport) : Type 0 where
  pub new : HasEvent (came_by before) e.id → ⊥
  pub room : length (came_by before) < MOST_EVENTS
  pub stands : after ≡ before ++ Came collector e ∷ []
  pub counts : report ≡ record counted { accepted = counted.accepted + 1 }

-- An event that is equal to one that came is passed over, and counted as a repeat.
pub record IsRepeat (e : Event) (before after : List Entry) (counted report : FeedReport)
    : Type 0 where
  pub known : Contains (came_by before) e
  pub same : after ≡ before
  pub counts : report ≡ record counted { repeats = counted.repeats + 1 }

-- An event that differs from the one of its id that came is passed over, and its id is listed.
pub record IsClash (e : Event) (before after : List Entry) (counted report : FeedReport)
    : Type 0 where
  pub known : HasEvent (came_by before) e.id
  pub other : Contains (came_by before) e → ⊥
  pub same : after ≡ before
  pub counts : report ≡ record counted { clashes = counted.clashes ++ e.id ∷ [] }

-- One event is taken and counted, once all is delivered that may go.
pub record TakesOne (types : TypeTable) (collector : ℕ) (e : Event) (before : List Entry)
    (counted : FeedReport) (after : List Entry) (report : FeedReport) : Type 0 where
  pub between : List Entry
  pub settles : SettlesTo types before between
  pub comes : IsAccepted collector e between after counted report
      ⊎ (IsRepeat e between after counted report ⊎ IsClash e between after counted report)

-- Events are taken and counted one after another; behind the last of them some of what may go is
-- delivered, perhaps not all of it.
abbrev pub Takes : TypeTable → ℕ → List Event → List Entry → FeedReport → List Entry → FeedReport
    → Type 0
Takes types collector [] before counted after report =
    Delivers types before after × (report ≡ counted)
Takes types collector (e ∷ events) before counted after report =
    (between : List Entry) × (one_more : FeedReport)
    × TakesOne types collector e before counted between one_more
    × Takes types collector events between one_more after report

-- a report of no events
abbrev pub no_report : FeedReport
no_report = record { accepted = 0; repeats = 0; clashes = [] }

-- All of these were taken, and nothing is left that may go.
pub record IsFed (types : TypeTable) (collector : ℕ) (events : List Event)
    (before after : List Entry) (report : FeedReport) : Type 0 where
  pub takes : Takes types collector events before no_report after report
  pub settled : IsSettled types after

-- An event with this id met as many as may come. All before it were taken, and nothing is left that
-- may go.
pub record IsFull (types : TypeTable) (collector : ℕ) (events : List Event)
    (before after : List Entry) (id : EventId) (report : FeedReport) : Type 0 where
  pub taken : List Event
  pub event : Event
  pub rest : List Event
  pub whole : events ≡ taken ++ event ∷ rest
  pub id_is : id ≡ event.id
  pub limit : MeetsLimit MOST_EVENTS after event
  pub fed : IsFed types collector taken before after report

-- So many of the events were taken, and counted so.
pub record IsTakenSoFar (types : TypeTable) (collector : ℕ) (events : List Event)
    (before after : List Entry) (done : ℕ) (report : FeedReport) : Type 0 where
  pub taken : List Event
  pub rest : List Event
  pub whole : events ≡ taken ++ rest
  pub as_many : done ≡ length taken
  pub takes : Takes types collector taken before no_report after report

-- Memory ran out after so many events were taken. The report is that of these; where there was no
-- memory for one, nothing was done.
abbrev pub IsCutShort : TypeTable → ℕ → List Event → List Entry → List Entry → ℕ
    → Option FeedReport → Type 0
IsCutShort types collector events before after done None = (done ≡ 0) × (after ≡ before)
IsCutShort types collector events before after done (Some report) =
    IsTakenSoFar types collector events before after done report
