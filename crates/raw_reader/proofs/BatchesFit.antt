-- The events of batches are fit, since the lines are that close them.
use Rattle.std.proofs.Common.{◌≡◌, ◌⊎◌, ℕ, inl, inr, Bool, true, false, cond, List, [], ◌∷◌, ◌++◌, length, Option, Some, None, sym, ◌∙◌, ap, subst}
use Rattle.std.specs.Prelude.{◌==◌, MatchOption, IfSome, option_to_list}
use Rattle.std.specs.List.{AllByRecursion}
use Rattle.causal_base.specs.declared.event.Event.{Event}
use Rattle.causal_base.specs.Event.{IsFit}
use Rattle.causal_base.specs.Types.{TypeTable}
use Rattle.raw_reader.specs.declared.cause.LineError.{LineError}
use Rattle.raw_reader.specs.ReaderState.{ReaderState, ReadsOn, RanOut, MetFault, HasRead, HasReadToEnd}
use Rattle.raw_reader.specs.declared.limits.TheConstants.{MOST_IN_BATCH}
use Rattle.raw_reader.specs.Texts.{TextLine, stop, says, IsFitLine, Batches, piece_of, closed_off, batches_with, batches_from, batches_of, IsGoodText, HasFault}

-- what holds of all of two lists holds of all of both
pub all_append : {A : Type 0} (P : A → Type 0) (xs ys : List A) → AllByRecursion P xs → AllByRecursion P ys → AllByRecursion P (xs ++ ys)
all_append P [] ys front back = back
all_append P (x ∷ xs) ys front back = (front.0, all_append P xs ys front.1 back)

pub all_back : {A : Type 0} (P : A → Type 0) (xs ys : List A) → AllByRecursion P (xs ++ ys) → AllByRecursion P ys
all_back P [] ys all = all
all_back P (x ∷ xs) ys all = all_back P xs ys all.1

module _ (types : TypeTable) where
  abbrev AreFit : List Event → Type 0
  AreFit events = AllByRecursion (IsFit types) events

  -- closed batches, and the one that is begun
  record HaveFit (batches : Batches) : Type 0 where
    closed : AllByRecursion AreFit batches.closed
    begun : AreFit batches.begun

  piece_fit : (events : List Event) → AreFit events → AllByRecursion AreFit (piece_of events)
  piece_fit [] fit = tt
  piece_fit (e ∷ events) fit = (fit, tt)

  off_fit : (batches : Batches) → HaveFit batches → HaveFit (closed_off batches)
  off_fit batches fit = record { closed = all_append AreFit batches.closed (piece_of batches.begun) fit.closed (piece_fit batches.begun fit.begun); begun = tt }

  by_length : (more : Batches) (full : Bool) → HaveFit more → HaveFit (cond full (closed_off more) more)
  by_length more true fit = off_fit more fit
  by_length more false fit = fit

  with_fit : (batches : Batches) (line : TextLine) → HaveFit batches → IsFitLine types line → HaveFit (batches_with batches line)
  with_fit batches stop fit line = off_fit batches fit
  with_fit batches (says e) fit line =
      by_length (record { closed = batches.closed; begun = batches.begun ++ e ∷ [] }) (length (batches.begun ++ e ∷ []) == MOST_IN_BATCH)
      (record { closed = fit.closed; begun = all_append (IsFit types) batches.begun (e ∷ []) fit.begun (line, tt) })

  from_fit : (start : Batches) (lines : List TextLine) → HaveFit start → AllByRecursion (IsFitLine types) lines → HaveFit (batches_from start lines)
  from_fit start [] fit all = fit
  from_fit start (line ∷ lines) fit all = from_fit (batches_with start line) lines (with_fit start line fit all.0) all.1

  lines_fit : (lines : List TextLine) → AllByRecursion (IsFitLine types) lines → HaveFit (batches_of lines)
  lines_fit lines all = from_fit (record { closed = []; begun = [] }) lines (record { closed = tt; begun = tt }) all

  good_fit : (bytes : List ℕ) (batches : List (List Event)) → IsGoodText types bytes batches → AllByRecursion AreFit batches
  good_fit bytes batches good = subst (AllByRecursion AreFit) good.closed (off_fit (batches_of good.lines) (lines_fit good.lines good.fit)).closed

  fault_fit : (bytes : List ℕ) (batches : List (List Event)) (error : LineError) → HasFault types bytes batches error → AllByRecursion AreFit batches
  fault_fit bytes batches error has = elim has.fault [
    | inl known ↦ subst (AllByRecursion AreFit) has.closed (lines_fit has.lines known.fit).closed
    | inr end ↦ subst (AllByRecursion AreFit) has.closed (lines_fit has.lines end.fit).closed
  ]

module _ (reader : ReaderState) (fed : List ℕ) (taken : List (List Event)) where
  stands_fit : (refusal : Option LineError) → MatchOption refusal (ReadsOn reader fed taken) (λ error. RanOut reader fed taken error ⊎ MetFault reader fed taken error) → AllByRecursion (AreFit reader.types) (taken ++ reader.waiting)
  stands_fit None on = subst (AllByRecursion (AreFit reader.types)) (ap (λ (b : Batches). b.closed) on.batches) (lines_fit reader.types on.lines on.fit).closed
  stands_fit (Some error) refused = elim refused [
    | inl out ↦ subst (AllByRecursion (AreFit reader.types)) out.closed (lines_fit reader.types out.lines out.fit).closed
    | inr met ↦ subst (AllByRecursion (AreFit reader.types)) met.batches (lines_fit reader.types met.lines met.fault.fit).closed
  ]

  ended_fit : (refusal : Option LineError) → MatchOption refusal (IsGoodText reader.types fed (taken ++ reader.waiting)) (λ error. RanOut reader fed taken error ⊎ HasFault reader.types fed (taken ++ reader.waiting) error) → AllByRecursion (AreFit reader.types) (taken ++ reader.waiting)
  ended_fit None good = good_fit reader.types fed (taken ++ reader.waiting) good
  ended_fit (Some error) refused = elim refused [
    | inl out ↦ subst (AllByRecursion (AreFit reader.types)) out.closed (lines_fit reader.types out.lines out.fit).closed
    | inr met ↦ fault_fit reader.types fed (taken ++ reader.waiting) error met
  ]

  -- the events of the batches that wait are fit
  pub waiting_fit : HasRead reader fed taken ⊎ HasReadToEnd reader fed taken → AllByRecursion (AllByRecursion (IsFit reader.types)) reader.waiting
  waiting_fit stands = elim stands [
    | inl on ↦ all_back (AreFit reader.types) taken reader.waiting (stands_fit reader.refusal on)
    | inr ended ↦ all_back (AreFit reader.types) taken reader.waiting (ended_fit reader.refusal ended)
  ]

-- so are those of the oldest, if one was taken
pub fit_taken : (reader whole : ReaderState) → reader ≡ whole → (result : Option (List Event)) (rest : List (List Event)) → reader.waiting ≡ option_to_list result ++ rest
    → IfSome result (λ batch. (fed : List ℕ) (taken : List (List Event)) → HasRead whole fed taken ⊎ HasReadToEnd whole fed taken → AllByRecursion (IsFit whole.types) batch)
fit_taken reader whole same None rest is = tt
fit_taken reader whole same (Some batch) rest is = λ fed taken stands.
    (subst (AllByRecursion (AllByRecursion (IsFit whole.types))) (ap (λ (r : ReaderState). r.waiting) (sym same) ∙ is) (waiting_fit whole fed taken stands)).0
