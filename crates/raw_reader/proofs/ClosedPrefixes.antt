-- The batches that a reader hands out are closed by a prefix of the text that it was fed.
use Rattle.std.proofs.Common.{◌⊎◌, ℕ, inl, inr, List, [], ◌∷◌, ◌++◌, length, drop, Option, Some, None, refl, sym, ◌∙◌, ap, subst, arith, append_assoc, append-nil, length-append}
use Rattle.std.specs.Prelude.{MatchOption}
use Rattle.std.proofs.lemmas.List.{take-append-drop, length-take}
use Rattle.causal_base.specs.declared.event.Event.{Event}
use Rattle.causal_base.specs.Types.{TypeTable}
use Rattle.raw_reader.specs.declared.cause.LineError.{LineError}
use Rattle.raw_reader.specs.ReaderState.{ReaderState, ReadsOn, RanOut, MetFault, HasRead, HasReadToEnd}
use Rattle.raw_reader.specs.declared.limits.TheConstants.{MOST_INPUT}
use Rattle.raw_reader.specs.Texts.{TextLine, text_of_lines, batches_of, IsKnownAfter, IsUnendedAfter, BeginsWithBatches, IsGoodText, HasFault}
use Rattle.raw_reader.proofs.ReaderSteps.{has_closed, known_stays, out_begins}

module _ (types : TypeTable) (bytes : List ℕ) where
  -- the lines before a fault
  known_closed : (lines : List TextLine) (error : LineError) → IsKnownAfter types bytes lines error → BeginsWithBatches types bytes (batches_of lines).closed
  known_closed lines error known = record {
    lines = lines;
    fit = known.fit;
    rest = known.tail ++ drop MOST_INPUT bytes;
    whole = sym (take-append-drop MOST_INPUT bytes) ∙ (ap (λ prefix. prefix ++ drop MOST_INPUT bytes) known.within ∙ append_assoc (text_of_lines types lines) known.tail (drop MOST_INPUT bytes));
    within = (let sizes = ap length known.within ∙ length-append (text_of_lines types lines) known.tail in let most = length-take MOST_INPUT bytes in omega (arith, sizes, most));
    closed = refl;
  }

  unended_closed : (lines : List TextLine) (error : LineError) → IsUnendedAfter types bytes lines error → BeginsWithBatches types bytes (batches_of lines).closed
  unended_closed lines error end = record {
    lines = lines;
    fit = end.fit;
    rest = end.tail;
    whole = end.whole;
    within = (let sizes = ap length end.whole ∙ length-append (text_of_lines types lines) end.tail in let within = end.within in omega (arith, sizes, within));
    closed = refl;
  }

  pub fault_closed : (batches : List (List Event)) (error : LineError) → HasFault types bytes batches error → BeginsWithBatches types bytes batches
  fault_closed batches error has = subst (BeginsWithBatches types bytes) has.closed (elim has.fault [
    | inl known ↦ known_closed has.lines error known
    | inr end ↦ unended_closed has.lines error end
  ])

module _ (reader : ReaderState) (fed : List ℕ) (taken : List (List Event)) where
  stands : (refusal : Option LineError) → MatchOption refusal (ReadsOn reader fed taken) (λ error. RanOut reader fed taken error ⊎ MetFault reader fed taken error) → BeginsWithBatches reader.types fed (taken ++ reader.waiting)
  stands None on = has_closed reader fed taken on
  stands (Some error) refused = elim refused [
    | inl out ↦ out_begins reader fed taken error out
    | inr met ↦ subst (BeginsWithBatches reader.types fed) met.batches (known_closed reader.types fed met.lines error met.fault)
  ]

  pub stands_closed : HasRead reader fed taken → BeginsWithBatches reader.types fed (taken ++ reader.waiting)
  stands_closed standing = stands reader.refusal standing

  ended : (refusal : Option LineError) → MatchOption refusal (IsGoodText reader.types fed (taken ++ reader.waiting)) (λ error. RanOut reader fed taken error ⊎ HasFault reader.types fed (taken ++ reader.waiting) error)
      → BeginsWithBatches reader.types fed (taken ++ reader.waiting) ⊎ IsGoodText reader.types fed (taken ++ reader.waiting)
  ended None good = inr good
  ended (Some error) refused = elim refused [
    | inl out ↦ inl (out_begins reader fed taken error out)
    | inr met ↦ inl (fault_closed reader.types fed (taken ++ reader.waiting) error met)
  ]

  pub ended_closed : HasReadToEnd reader fed taken → BeginsWithBatches reader.types fed (taken ++ reader.waiting) ⊎ IsGoodText reader.types fed (taken ++ reader.waiting)
  ended_closed standing = ended reader.refusal standing

-- a fault that is known stays so, whatever follows
pub known_stays_on : (types : TypeTable) (fed more : List ℕ) (lines : List TextLine) (error : LineError) → IsKnownAfter types fed lines error → IsKnownAfter types (fed ++ more) lines error
known_stays_on types fed [] lines error known = subst (λ bytes. IsKnownAfter types bytes lines error) (sym (append-nil fed)) known
known_stays_on types fed (byte ∷ more) lines error known =
    subst (λ bytes. IsKnownAfter types bytes lines error) (append_assoc fed (byte ∷ []) more) (known_stays_on types (fed ++ byte ∷ []) more lines error (known_stays types fed byte lines error known))
