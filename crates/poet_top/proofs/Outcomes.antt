-- No bytes have two of these: an answer, a bad line, and too many ids.
use Rattle.std.proofs.Common.{◌≡◌, ◌≤◌, ℕ, inl, inr, Bool, List, ◌++◌, sym, ◌∙◌, ap, subst, arith}
use Rattle.causal_base.specs.declared.answer.Answer.{Answer}
use Rattle.causal_base.specs.declared.event.Event.{Event}
use Rattle.causal_base.specs.declared.event_id.EventId.{EventId}
use Rattle.causal_base.specs.Types.{TypeTable}
use Rattle.causal_base.specs.TypeTables.{IsTypeTable}
use Rattle.raw_reader.specs.declared.cause.LineError.{LineError}
use Rattle.raw_reader.specs.Texts.{events_of}
use Rattle.raw_reader.proofs.CallerLemmas.{good_once, faulty_once, not_both, first_of_good, first_of_faulty}
use Rattle.poet_top.specs.Ask.{count_of_ids, IsAnswerOver, HasBadLine, HasManyIds}
use Rattle.poet_top.proofs.Counted.{count_front}
use Rattle.poet_top.proofs.Waiting.{events_append}

-- batches that come first have no more ids
few_first : (first batches : List (List Event)) → (rest : List (List Event)) × (batches ≡ first ++ rest) → count_of_ids (events_of first) ≤ count_of_ids (events_of batches)
few_first first batches goes_on =
    subst (λ es. count_of_ids (events_of first) ≤ count_of_ids es) (sym (ap events_of goes_on.1 ∙ events_append first goes_on.0)) (count_front (events_of first) (events_of goes_on.0))

module _ (types : TypeTable) (table : IsTypeTable types) (bytes : List ℕ) where
  pub answer_or_bad_line : (a b : EventId) (answer : Answer Bool) (error : LineError) → IsAnswerOver types bytes a b answer → HasBadLine types bytes error → ⊥
  answer_or_bad_line a b answer error over bad = not_both types table bytes over.batches bad.batches error over.good bad.fault

  pub answer_or_many : (a b : EventId) (answer : Answer Bool) → IsAnswerOver types bytes a b answer → HasManyIds types bytes → ⊥
  answer_or_many a b answer over more =
      let few = over.few in
      let many = more.many in
      elim more.closed [
        | inl closed ↦ (let first = few_first more.batches over.batches (first_of_good types table bytes more.batches closed over.batches over.good) in omega (arith, few, many, first))
        | inr good ↦ (let same = ap (λ batches. count_of_ids (events_of batches)) (good_once types table bytes over.batches more.batches over.good good) in omega (arith, few, many, same))
      ]

  pub bad_line_or_many : (error : LineError) → HasBadLine types bytes error → HasManyIds types bytes → ⊥
  bad_line_or_many error bad more =
      let few = bad.few in
      let many = more.many in
      elim more.closed [
        | inl closed ↦ (let first = few_first more.batches bad.batches (first_of_faulty types table bytes more.batches closed bad.batches error bad.fault) in omega (arith, few, many, first))
        | inr good ↦ not_both types table bytes more.batches bad.batches error good bad.fault
      ]

  pub bad_line_once : (error other : LineError) → HasBadLine types bytes error → HasBadLine types bytes other → error ≡ other
  bad_line_once error other one two = (faulty_once types table bytes one.batches two.batches error other one.fault two.fault).1
