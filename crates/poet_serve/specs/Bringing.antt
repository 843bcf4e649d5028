-- What becomes of the events that a collector brings, while others bring theirs.
use Rattle.std.specs.Prelude.{◌≡◌, ◌≢◌, ◌⊎◌, ℕ, List, [], ◌∷◌, ◌++◌}
use Rattle.std.specs.List.{AllByRecursion}
use Rattle.causal_base.specs.declared.entry.Entry.{Entry}
use Rattle.causal_base.specs.declared.entry.Entry.TheVariants.{Came, Gone, Pair, Ended}
use Rattle.causal_base.specs.declared.event.Event.{Event}
use Rattle.event_book.specs.declared.report.FeedReport.{FeedReport}
use Rattle.event_book.specs.Feeding.{IsAccepted, IsRepeat, IsClash}

-- the entry isn't one of this collector: no event that it brought, nor its end
abbrev pub IsOfAnother : ℕ → Entry → Type 0
IsOfAnother collector (Came other e) = other ≢ collector
IsOfAnother collector (Gone a) = Unit {0}
IsOfAnother collector (Pair a b) = Unit {0}
IsOfAnother collector (Ended other) = other ≢ collector

-- A journal goes on without this collector.
pub record GoesOnWithout (collector : ℕ) (before after : List Entry) : Type 0 where
  pub more : List Entry
  pub goes_on : after ≡ before ++ more
  pub of_others : AllByRecursion (IsOfAnother collector) more

-- An event meets a journal: it comes, as its id is new, or it is a repeat, or a clash.
abbrev pub Meets : ℕ → Event → List Entry → List Entry → FeedReport → FeedReport → Type 0
Meets collector e before after counted report = IsAccepted collector e before after counted report
    ⊎ (IsRepeat e before after counted report ⊎ IsClash e before after counted report)

-- A collector's events meet the journal one after another, and are counted as what they are; before
-- each and after the last the journal may go on without the collector.
abbrev pub Brings : ℕ → List Event → List Entry → FeedReport → List Entry → FeedReport → Type 0
Brings collector [] before counted after report =
    GoesOnWithout collector before after × (report ≡ counted)
Brings collector (e ∷ events) before counted after report = (met : List Entry) × (next : List Entry)
    × (one_more : FeedReport) × GoesOnWithout collector before met
    × Meets collector e met next counted one_more
    × Brings collector events next one_more after report
