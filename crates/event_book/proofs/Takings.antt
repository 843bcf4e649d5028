-- The events of a batch, taken one after another.
use Rattle.std.proofs.Common.{◌≡◌, ◌+◌, ℕ, List, [], ◌∷◌, ◌++◌, length, length-append, reverse, refl, ◌∙◌, ap, subst, arith, inl, inr}
use Rattle.causal_base.specs.declared.entry.Entry.{Entry}
use Rattle.causal_base.specs.declared.entry.Entry.TheVariants.{Came, Ended}
use Rattle.causal_base.specs.declared.event.Event.{Event}
use Rattle.causal_base.specs.Types.{TypeTable}
use Rattle.causal_base.specs.Journal.{IsLegal}
use Rattle.causal_base.specs.Past.{HasEnded}
use Rattle.causal_base.proofs.CallerLemmas.{Contains-cons, reverse-push}
use Rattle.event_book.specs.declared.report.FeedReport.{FeedReport}
use Rattle.event_book.specs.Counted.{count_of}
use Rattle.event_book.specs.Feeding.{Delivers, Takes, TakesOne}
use Rattle.event_book.proofs.Settling.{delivers_none, delivers_on, not_ended, settles_on}

-- one event more
pub takes_one : (types : TypeTable) (collector : ℕ) (events : List Event) (before : List Entry) (counted : FeedReport) (mid : List Entry) (report : FeedReport) → Takes types collector events before counted mid report
    → (e : Event) (after : List Entry) (later : FeedReport) → TakesOne types collector e mid report after later → IsLegal types after → Takes types collector (events ++ e ∷ []) before counted after later
takes_one types collector [] before counted mid report taken e after later one legal =
    let more = subst (λ (r : FeedReport). TakesOne types collector e mid r after later) taken.1 one in
    (after, later, record { between = more.between; settles = settles_on types before mid more.between taken.0 more.settles; comes = more.comes }, (delivers_none types after legal, refl))
takes_one types collector (x ∷ events) before counted mid report (between, one_more, first, rest) e after later one legal =
    (between, one_more, first, takes_one types collector events between one_more mid report rest e after later one legal)

-- and what goes behind the last of them
pub takes_then : (types : TypeTable) (collector : ℕ) (events : List Event) (before : List Entry) (counted : FeedReport) (mid : List Entry) (report : FeedReport) → Takes types collector events before counted mid report
    → (after : List Entry) → Delivers types mid after → Takes types collector events before counted after report
takes_then types collector [] before counted mid report taken after on = (delivers_on types before mid after taken.0 on, taken.1)
takes_then types collector (x ∷ events) before counted mid report (between, one_more, first, rest) after on =
    (between, one_more, first, takes_then types collector events between one_more mid report rest after on)

-- events behind others
pub takes_more : (types : TypeTable) (collector : ℕ) (events others : List Event) (before : List Entry) (counted : FeedReport) (mid : List Entry) (report : FeedReport) (after : List Entry) (later : FeedReport)
    → Takes types collector events before counted mid report → Takes types collector others mid report after later → Takes types collector (events ++ others) before counted after later
takes_more types collector [] [] before counted mid report after later taken rest = (delivers_on types before mid after taken.0 rest.0, rest.1 ∙ taken.1)
takes_more types collector [] (e ∷ others) before counted mid report after later taken (between, one_more, one, rest) =
    let same = subst (λ (r : FeedReport). TakesOne types collector e mid r between one_more) taken.1 one in
    (between, one_more, record { between = same.between; settles = settles_on types before mid same.between taken.0 same.settles; comes = same.comes }, rest)
takes_more types collector (x ∷ events) others before counted mid report after later (between, one_more, first, taken) rest =
    (between, one_more, first, takes_more types collector events others between one_more mid report after later taken rest)

counts_one : (types : TypeTable) (collector : ℕ) (e : Event) (before : List Entry) (counted : FeedReport) (after : List Entry) (report : FeedReport) → TakesOne types collector e before counted after report → count_of report ≡ count_of counted + 1
counts_one types collector e before counted after report one = elim one.comes [
  | inl accepted ↦ ap count_of accepted.counts ∙ omega arith
  | inr known ↦ elim known [
    | inl repeat ↦ ap count_of repeat.counts ∙ omega arith
    | inr clash ↦ ap count_of clash.counts ∙ (let long = length-append counted.clashes (e.id ∷ []) in omega (arith, long))
  ]
]

-- as many are counted as were taken
pub counts_all : (types : TypeTable) (collector : ℕ) (events : List Event) (before : List Entry) (counted : FeedReport) (after : List Entry) (report : FeedReport) → Takes types collector events before counted after report → count_of report ≡ count_of counted + length events
counts_all types collector [] before counted after report taken = ap count_of taken.1 ∙ omega arith
counts_all types collector (e ∷ events) before counted after report (between, one_more, one, rest) =
    let first = counts_one types collector e before counted between one_more one in
    let others = counts_all types collector events between one_more after report rest in
    omega (arith, first, others)

-- a collector that hasn't ended hasn't after an event of its own
pub open_after : (types : TypeTable) (collector : ℕ) (e : Event) (before : List Entry) (counted : FeedReport) (after : List Entry) (report : FeedReport) → TakesOne types collector e before counted after report
    → (HasEnded (reverse before) collector → ⊥) → HasEnded (reverse after) collector → ⊥
open_after types collector e before counted after report one open_yet ended =
    let settled : HasEnded (reverse one.between) collector → ⊥ = λ early. open_yet (not_ended collector before one.settles.more one.settles.delivers (subst (λ (l : List Entry). HasEnded (reverse l) collector) one.settles.goes_on early)) in
    elim one.comes [
      | inl accepted ↦ elim (Contains-cons (Came collector e) (reverse one.between) (Ended collector) (subst (λ (l : List Entry). HasEnded l collector) (ap reverse accepted.stands ∙ reverse-push one.between (Came collector e)) ended)) [
        | inl is ↦ absurd cc
        | inr inside ↦ settled inside
      ]
      | inr known ↦ elim known [
        | inl repeat ↦ settled (subst (λ (l : List Entry). HasEnded (reverse l) collector) repeat.same ended)
        | inr clash ↦ settled (subst (λ (l : List Entry). HasEnded (reverse l) collector) clash.same ended)
      ]
    ]
