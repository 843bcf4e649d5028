-- What is taken batch by batch is taken as one.
use Rattle.std.proofs.Common.{◌≡◌, ◌+◌, ℕ, List, [], ◌∷◌, ◌++◌, length, reverse, refl, sym, ◌∙◌, ap, subst, arith, inl, inr, append_assoc, append-nil}
use Rattle.std.specs.List.{AllByRecursion}
use Rattle.causal_base.specs.declared.entry.Entry.{Entry}
use Rattle.causal_base.specs.declared.entry.Entry.TheVariants.{Came, Gone, Pair, Ended}
use Rattle.causal_base.specs.declared.event.Event.{Event}
use Rattle.causal_base.specs.Types.{TypeTable}
use Rattle.causal_base.specs.InTurn.{DeliversSomething}
use Rattle.causal_base.specs.Past.{HasEnded}
use Rattle.event_book.specs.declared.report.FeedReport.{FeedReport}
use Rattle.event_book.specs.Counted.{count_of}
use Rattle.event_book.specs.Feeding.{no_report, Delivers, Takes, TakesOne}
use Rattle.event_book.proofs.CallerLemmas.{all_append, counts_all, not_ended, open_after, takes_more}
use Rattle.poet_serve.specs.Bringing.{Brings, GoesOnWithout, IsOfAnother}
use Rattle.poet_serve.specs.Tallies.{both}

-- counted on top of earlier counts
both_none : (report : FeedReport) → both report no_report ≡ report
both_none report =
    let a : report.accepted + 0 ≡ report.accepted = omega arith in
    let b : report.repeats + 0 ≡ report.repeats = omega arith in
    rw a (rw b (rw (append-nil report.clashes) refl))

more_accepted : (earlier counted : FeedReport) → both earlier (record counted { accepted = counted.accepted + 1 }) ≡ record (both earlier counted) { accepted = (both earlier counted).accepted + 1 }
more_accepted earlier counted =
    let sum : earlier.accepted + (counted.accepted + 1) ≡ (earlier.accepted + counted.accepted) + 1 = omega arith in
    ap (λ n. record (both earlier counted) { accepted = n }) sum

more_repeats : (earlier counted : FeedReport) → both earlier (record counted { repeats = counted.repeats + 1 }) ≡ record (both earlier counted) { repeats = (both earlier counted).repeats + 1 }
more_repeats earlier counted =
    let sum : earlier.repeats + (counted.repeats + 1) ≡ (earlier.repeats + counted.repeats) + 1 = omega arith in
    ap (λ n. record (both earlier counted) { repeats = n }) sum

more_clashes : (earlier counted : FeedReport) (e : Event) → both earlier (record counted { clashes = counted.clashes ++ e.id ∷ [] }) ≡ record (both earlier counted) { clashes = (both earlier counted).clashes ++ e.id ∷ [] }
more_clashes earlier counted e = ap (λ ids. record (both earlier counted) { clashes = ids }) (sym (append_assoc earlier.clashes counted.clashes (e.id ∷ [])))

one_on_top : (types : TypeTable) (collector : ℕ) (e : Event) (before after : List Entry) (earlier counted report : FeedReport) → TakesOne types collector e before counted after report → TakesOne types collector e before (both earlier counted) after (both earlier report)
one_on_top types collector e before after earlier counted report one = record {
  between = one.between;
  settles = one.settles;
  comes = elim one.comes [
    | inl accepted ↦ inl (record { new = accepted.new; room = accepted.room; stands = accepted.stands; counts = ap (both earlier) accepted.counts ∙ more_accepted earlier counted })
    | inr known ↦ elim known [
      | inl repeat ↦ inr (inl (record { known = repeat.known; same = repeat.same; counts = ap (both earlier) repeat.counts ∙ more_repeats earlier counted }))
      | inr clash ↦ inr (inr (record { known = clash.known; other = clash.other; same = clash.same; counts = ap (both earlier) clash.counts ∙ more_clashes earlier counted e }))
    ]
  ];
}

on_top : (types : TypeTable) (collector : ℕ) (events : List Event) (before after : List Entry) (earlier counted report : FeedReport) → Takes types collector events before counted after report → Takes types collector events before (both earlier counted) after (both earlier report)
on_top types collector [] before after earlier counted report taken = (taken.0, ap (both earlier) taken.1)
on_top types collector (e ∷ events) before after earlier counted report (between, one_more, one, rest) =
    (between, both earlier one_more, one_on_top types collector e before between earlier counted one_more one, on_top types collector events between after earlier one_more report rest)

-- the events of one list and then of another
pub taken_more : (types : TypeTable) (collector : ℕ) (events others : List Event) (start mid after : List Entry) (counted report : FeedReport) → Takes types collector events start no_report mid counted
    → Takes types collector others mid no_report after report → Takes types collector (events ++ others) start no_report after (both counted report)
taken_more types collector events others start mid after counted report taken more =
    let rest = on_top types collector others mid after counted no_report report more in
    takes_more types collector events others start no_report mid counted after (both counted report) taken (subst (λ (r : FeedReport). Takes types collector others mid r after (both counted report)) (both_none counted) rest)

-- as many are counted as were taken
pub taken_count : (types : TypeTable) (collector : ℕ) (events : List Event) (start after : List Entry) (counted : FeedReport) → Takes types collector events start no_report after counted → count_of counted ≡ length events
taken_count types collector events start after counted taken =
    let all = counts_all types collector events start no_report after counted taken in
    omega (arith, all)

deliveries_without : (collector : ℕ) (entries : List Entry) → AllByRecursion DeliversSomething entries → AllByRecursion (IsOfAnother collector) entries
deliveries_without collector [] all = tt
deliveries_without collector (Came other e ∷ entries) all = absurd all.0
deliveries_without collector (Gone a ∷ entries) all = (tt, deliveries_without collector entries all.1)
deliveries_without collector (Pair a b ∷ entries) all = (tt, deliveries_without collector entries all.1)
deliveries_without collector (Ended other ∷ entries) all = absurd all.0

-- a journal goes on without a collector by some entries and then others
pub without_on : (collector : ℕ) (a b c : List Entry) → GoesOnWithout collector a b → GoesOnWithout collector b c → GoesOnWithout collector a c
without_on collector a b c first second = record {
  more = first.more ++ second.more;
  goes_on = second.goes_on ∙ (ap (λ (l : List Entry). l ++ second.more) first.goes_on ∙ append_assoc a first.more second.more);
  of_others = all_append (IsOfAnother collector) first.more second.more first.of_others second.of_others;
}

pub delivers_without : (types : TypeTable) (collector : ℕ) (before after : List Entry) → Delivers types before after → GoesOnWithout collector before after
delivers_without types collector before after on = record { more = on.more; goes_on = on.goes_on; of_others = deliveries_without collector on.more on.delivers }

-- what is taken is brought
pub taken_brings : (types : TypeTable) (collector : ℕ) (events : List Event) (before after : List Entry) (counted report : FeedReport) → Takes types collector events before counted after report → Brings collector events before counted after report
taken_brings types collector [] before after counted report taken = (delivers_without types collector before after taken.0, taken.1)
taken_brings types collector (e ∷ events) before after counted report (between, one_more, one, rest) = (
  one.between,
  between,
  one_more,
  record { more = one.settles.more; goes_on = one.settles.goes_on; of_others = deliveries_without collector one.settles.more one.settles.delivers },
  one.comes,
  taken_brings types collector events between after one_more report rest,
)

-- also where the journal went on without the collector before
pub brings_later : (collector : ℕ) (events : List Event) (first before after : List Entry) (counted report : FeedReport) → GoesOnWithout collector first before → Brings collector events before counted after report → Brings collector events first counted after report
brings_later collector [] first before after counted report on brings = (without_on collector first before after on brings.0, brings.1)
brings_later collector (e ∷ events) first before after counted report on (met, next, one_more, goes, meets, rest) =
    (met, next, one_more, without_on collector first before met on goes, meets, rest)

-- and the collector hasn't ended
pub taken_open : (types : TypeTable) (collector : ℕ) (events : List Event) (before after : List Entry) (counted report : FeedReport) → Takes types collector events before counted after report
    → (HasEnded (reverse before) collector → ⊥) → HasEnded (reverse after) collector → ⊥
taken_open types collector [] before after counted report taken still ended =
    still (not_ended collector before taken.0.more taken.0.delivers (subst (λ (l : List Entry). HasEnded (reverse l) collector) taken.0.goes_on ended))
taken_open types collector (e ∷ events) before after counted report (between, one_more, one, rest) still ended =
    taken_open types collector events between after one_more report rest (open_after types collector e before counted between one_more one still) ended
