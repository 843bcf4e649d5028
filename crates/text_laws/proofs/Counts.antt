-- What is told of the events that a collector brought can be read.
use Rattle.std.proofs.Common.{◌≡◌, ℕ, ◌≤◌, suc, inl, inr, List, [], ◌∷◌, ◌++◌, length, map, reverse, take, drop, take-append-drop, sym, ◌∙◌, ap, subst, arith, append_assoc, append-nil, length-append}
use Rattle.std.specs.List.{AllByRecursion}
use Rattle.std.proofs.lemmas.List.{reverse-append}
use Rattle.causal_base.specs.declared.entry.Entry.{Entry}
use Rattle.causal_base.specs.declared.entry.Entry.TheVariants.{Came, Ended}
use Rattle.causal_base.specs.declared.event.Event.{Event}
use Rattle.causal_base.specs.declared.event_id.EventId.{EventId}
use Rattle.causal_base.specs.declared.limits.TheConstants.{MOST_EVENTS}
use Rattle.causal_base.specs.Event.{IsInRange}
use Rattle.causal_base.specs.Journal.{IsLegal, came_by}
use Rattle.causal_base.specs.Past.{came}
use Rattle.causal_base.specs.Types.{TypeTable}
use Rattle.causal_base.proofs.CallerLemmas.{came-append, came_fit, reverse-push}
use Rattle.event_book.specs.declared.report.FeedReport.{FeedReport}
use Rattle.event_book.specs.Feeding.{no_report}
use Rattle.poet_io.specs.SourceState.{SourceState}
use Rattle.poet_serve.specs.declared.limits.TheConstants.{MOST_CLASHES_NAMED}
use Rattle.poet_serve.specs.Bringing.{Brings, Meets}
use Rattle.poet_serve.specs.Collecting.{IsPartOf, Told}
use Rattle.poet_serve.specs.Transcripts.{Collected, HaveParts}
use Rattle.run_text.specs.Runs.{RunTold}
use Rattle.text_laws.specs.OneReading.{FitsId, FitsTold, IsOfRun}
use Rattle.text_laws.proofs.CollectorLines.{IsReadableTold}
use Rattle.text_laws.proofs.Journals.{all_parted, legal_before}

-- no fewer events came to a journal that goes on
came_grows : (journal more : List Entry) → length (came_by journal) ≤ length (came_by (journal ++ more))
came_grows journal more =
    let is : came_by (journal ++ more) ≡ came (reverse more) ++ came (reverse journal) = ap came (reverse-append journal more) ∙ came-append (reverse more) (reverse journal) in
    let size = ap (λ (es : List Event). length es) is in
    let sum = length-append (came (reverse more)) (came (reverse journal)) in
    omega (arith, size, sum)

-- what goes on from what goes on from a journal goes on from it
goes_on_twice : (a b c : List Entry) → (first : List Entry) → b ≡ a ++ first → (second : List Entry) → c ≡ b ++ second → (more : List Entry) × (c ≡ a ++ more)
goes_on_twice a b c first is second also = (first ++ second, also ∙ (ap (λ (x : List Entry). x ++ second) is ∙ append_assoc a first second))

-- what holds of all holds of one more
all_pushed : {X : Type 0} (P : X → Type 0) (xs : List X) (x : X) → AllByRecursion P xs → P x → AllByRecursion P (xs ++ x ∷ [])
all_pushed P [] x all one = (one, tt)
all_pushed P (y ∷ xs) x all one = (all.0, all_pushed P xs x all.1 one)

module _ (types : TypeTable) (collector : ℕ) where
  -- what an event meets goes on
  meets_on : (e : Event) (before after : List Entry) (counted report : FeedReport) → Meets collector e before after counted report → (more : List Entry) × (after ≡ before ++ more)
  meets_on e before after counted report meets = elim meets [
    | inl accepted ↦ (Came collector e ∷ [], accepted.stands)
    | inr known ↦ elim known [ inl repeat ↦ ([], repeat.same ∙ sym (append-nil before)) | inr clash ↦ ([], clash.same ∙ sym (append-nil before)) ]
  ]

  brings_on : (events : List Event) (before after : List Entry) (counted report : FeedReport) → Brings collector events before counted after report → (more : List Entry) × (after ≡ before ++ more)
  brings_on [] before after counted report brings = (brings.0.more, brings.0.goes_on)
  brings_on (e ∷ events) before after counted report brings =
      let met = meets_on e brings.0 brings.1 counted brings.2 brings.4 in
      let rest = brings_on events brings.1 after brings.2 report brings.5 in
      let both = goes_on_twice before brings.0 brings.1 brings.3.more brings.3.goes_on met.0 met.1 in
      goes_on_twice before brings.1 after both.0 both.1 rest.0 rest.1

  -- no more are counted as accepted than came, and the ids of those that clashed are in range
  record AreCounted (journal : List Entry) (counted : FeedReport) : Type 0 where
    accepted : counted.accepted ≤ length (came_by journal)
    clashes : AllByRecursion (IsInRange types) counted.clashes

  still_counted : (journal more after : List Entry) (counted : FeedReport) → after ≡ journal ++ more → AreCounted journal counted → AreCounted after counted
  still_counted journal more after counted is are = record {
    accepted = (let grows = came_grows journal more in let size = ap (λ (j : List Entry). length (came_by j)) is in let few = are.accepted in omega (arith, grows, size, few));
    clashes = are.clashes;
  }

  one_counted : (e : Event) (before after : List Entry) (counted report : FeedReport) → IsLegal types before → Meets collector e before after counted report → AreCounted before counted → AreCounted after report
  one_counted e before after counted report legal meets are = elim meets [
    | inl accepted ↦
        let size = ap (λ (j : List Entry). length (came_by j)) accepted.stands ∙ ap (λ (past : List Entry). length (came past)) (reverse-push before (Came collector e)) in
        let number = ap (λ (r : FeedReport). r.accepted) accepted.counts in
        let few = are.accepted in
        record {
          accepted = omega (arith, size, number, few);
          clashes = subst (λ (r : FeedReport). AllByRecursion (IsInRange types) r.clashes) (sym accepted.counts) are.clashes;
        }
    | inr known ↦ elim known [
      | inl repeat ↦
          let size = ap (λ (j : List Entry). length (came_by j)) repeat.same in
          let number = ap (λ (r : FeedReport). r.accepted) repeat.counts in
          let few = are.accepted in
          record {
            accepted = omega (arith, size, number, few);
            clashes = subst (λ (r : FeedReport). AllByRecursion (IsInRange types) r.clashes) (sym repeat.counts) are.clashes;
          }
      | inr clash ↦
          let size = ap (λ (j : List Entry). length (came_by j)) clash.same in
          let number = ap (λ (r : FeedReport). r.accepted) clash.counts in
          let few = are.accepted in
          let range : IsInRange types e.id = subst (IsInRange types) clash.known.2 (came_fit types (reverse before) legal clash.known.0 clash.known.1).id in
          record {
            accepted = omega (arith, size, number, few);
            clashes = subst (λ (r : FeedReport). AllByRecursion (IsInRange types) r.clashes) (sym clash.counts) (all_pushed (IsInRange types) counted.clashes e.id are.clashes range);
          }
    ]
  ]

  all_counted : (events : List Event) (before after : List Entry) (counted report : FeedReport) → IsLegal types after → Brings collector events before counted after report → AreCounted before counted → AreCounted after report
  all_counted [] before after counted report legal brings are =
      subst (AreCounted after) (sym brings.1) (still_counted before brings.0.more after counted brings.0.goes_on are)
  all_counted (e ∷ events) before after counted report legal brings are =
      let met = brings.0 in
      let next = brings.1 in
      let here = still_counted before brings.3.more met counted brings.3.goes_on are in
      let on = meets_on e met next counted brings.2 brings.4 in
      let rest = brings_on events next after brings.2 report brings.5 in
      let far = goes_on_twice met next after on.0 on.1 rest.0 rest.1 in
      let legal_met : IsLegal types met = legal_before types met far.0 (subst (IsLegal types) far.1 legal) in
      all_counted events next after brings.2 report legal brings.5 (one_counted e met next counted brings.2 legal_met brings.4 here)

-- the first of what holds of all
all_first : {X : Type 0} (P : X → Type 0) (n : ℕ) (xs : List X) → AllByRecursion P xs → AllByRecursion P (take n xs)
all_first P n xs all = (all_parted P (take n xs) (drop n xs) (subst (AllByRecursion P) (sym (take-append-drop n xs)) all)).0

ids_fit : (types : TypeTable) (ids : List EventId) → types.traces ≤ 256 → AllByRecursion (IsInRange types) ids → AllByRecursion FitsId ids
ids_fit types [] few range = tt
ids_fit types (id ∷ ids) few range = (let one = range.0 in let trace = one.trace in let number = one.most in (omega (arith, trace, few), omega (arith, number)), ids_fit types ids few range.1)

module _ (types : TypeTable) (few : types.traces ≤ 256) (journal : List Entry) (legal : IsLegal types journal) (few_events : length (came_by journal) ≤ MOST_EVENTS) where
  -- what is told of one collector
  part_is_readable : (collector : ℕ) (before after : SourceState) (told : Told) → IsPartOf types journal collector before after told → FitsTold told → IsReadableTold told
  part_is_readable collector before after told part fits =
      let legal_until : IsLegal types part.until_end = legal_before types part.until_end (Ended collector ∷ part.behind) (subst (IsLegal types) part.whole legal) in
      let counted = all_counted types collector part.events [] part.until_end no_report part.counted legal_until part.brings (record { accepted = omega arith; clashes = tt }) in
      let grows = came_grows part.until_end (Ended collector ∷ part.behind) in
      let size = ap (λ (j : List Entry). length (came_by j)) part.whole in
      let number = ap (λ (t : Told). t.accepted) part.told_is in
      let most = counted.accepted in
      record {
        accepted = omega (arith, grows, size, number, most, few_events);
        repeats = fits.repeats;
        clashes = fits.clashes;
        first = subst (AllByRecursion FitsId) (sym (ap (λ (t : Told). t.first) part.told_is)) (ids_fit types _ few (all_first (IsInRange types) MOST_CLASHES_NAMED part.counted.clashes counted.clashes));
        stop = fits.stop;
      }

  parts_are_readable : (collector : ℕ) (collected : List Collected) → HaveParts types journal collector collected → AllByRecursion FitsTold (map (λ one. one.told) collected) → AllByRecursion IsReadableTold (map (λ one. one.told) collected)
  parts_are_readable collector [] parts fits = tt
  parts_are_readable collector (one ∷ others) parts fits =
      (part_is_readable collector one.before one.after one.told parts.0 fits.0, parts_are_readable (suc collector) others parts.1 fits.1)

-- what is told of the collectors of a run can be read
pub told_is_readable : (told : RunTold) → IsOfRun told → told.setup.types.traces ≤ 256 → AllByRecursion IsReadableTold told.collectors
told_is_readable told of few =
    let run = of.is_transcript in
    subst (AllByRecursion IsReadableTold) (sym of.collectors_are)
    (parts_are_readable told.setup.types few told.journal run.is_journal.legal run.is_journal.few 0 of.collected run.parts (subst (AllByRecursion FitsTold) of.collectors_are of.numbers))
