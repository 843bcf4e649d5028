-- What a reader has read once its oldest batch was taken.
use Rattle.std.proofs.Common.{◌≡◌, ◌⊎◌, ℕ, inl, inr, List, [], ◌∷◌, ◌++◌, Option, Some, None, sym, ◌∙◌, ap, subst, append_assoc}
use Rattle.std.specs.Prelude.{MatchOption, IfSome, option_to_list}
use Rattle.causal_base.specs.declared.event.Event.{Event}
use Rattle.raw_reader.specs.declared.cause.LineError.{LineError}
use Rattle.raw_reader.specs.ReaderState.{ReaderState, ReadsOn, RanOut, MetFault, HasRead, HasReadToEnd}
use Rattle.raw_reader.specs.Texts.{IsGoodText, HasFault}

module _ (reader : ReaderState) (fed : List ℕ) (taken : List (List Event)) (batch : List Event) (rest : List (List Event)) (is : reader.waiting ≡ batch ∷ rest) where
  -- the reader without its oldest batch, and the batches with it
  abbrev later : ReaderState
  later = record reader { waiting = rest }

  abbrev now : List (List Event)
  now = taken ++ batch ∷ []

  moved : taken ++ reader.waiting ≡ now ++ rest
  moved = ap (λ w. taken ++ w) is ∙ sym (append_assoc taken (batch ∷ []) rest)

  reads_on : ReadsOn reader fed taken → ReadsOn later fed now
  reads_on on = record {
    lines = on.lines;
    fit = on.fit;
    fed_is = on.fed_is;
    one_line = on.one_line;
    short = on.short;
    size_is = on.size_is;
    within = on.within;
    count_is = on.count_is;
    batches = on.batches ∙ ap (λ c. record { closed = c; begun = reader.begun }) moved;
  }

  ran_out : (error : LineError) → RanOut reader fed taken error → RanOut later fed now error
  ran_out error out = record { lines = out.lines; fit = out.fit; rest = out.rest; whole = out.whole; within = out.within; closed = out.closed ∙ moved; line_is = out.line_is; cause = out.cause }

  met_fault : (error : LineError) → MetFault reader fed taken error → MetFault later fed now error
  met_fault error met = record { lines = met.lines; fault = met.fault; batches = met.batches ∙ moved }

  stays : (refusal : Option LineError) → MatchOption refusal (ReadsOn reader fed taken) (λ error. RanOut reader fed taken error ⊎ MetFault reader fed taken error)
      → MatchOption refusal (ReadsOn later fed now) (λ error. RanOut later fed now error ⊎ MetFault later fed now error)
  stays None on = reads_on on
  stays (Some error) refused = elim refused [ inl out ↦ inl (ran_out error out) | inr met ↦ inr (met_fault error met) ]

  pub stands_taken : HasRead reader fed taken → HasRead later fed now
  stands_taken stands = stays reader.refusal stands

  stays_at_end : (refusal : Option LineError) → MatchOption refusal (IsGoodText reader.types fed (taken ++ reader.waiting)) (λ error. RanOut reader fed taken error ⊎ HasFault reader.types fed (taken ++ reader.waiting) error)
      → MatchOption refusal (IsGoodText reader.types fed (now ++ rest)) (λ error. RanOut later fed now error ⊎ HasFault reader.types fed (now ++ rest) error)
  stays_at_end None good = subst (IsGoodText reader.types fed) moved good
  stays_at_end (Some error) refused = elim refused [
    | inl out ↦ inl (ran_out error out)
    | inr met ↦ inr (subst (λ batches. HasFault reader.types fed batches error) moved met)
  ]

  pub ended_taken : HasReadToEnd reader fed taken → HasReadToEnd later fed now
  ended_taken stands = stays_at_end reader.refusal stands

-- so it is where one was taken, if any
pub stands_after : (reader whole : ReaderState) → reader ≡ whole → (result : Option (List Event)) (rest : List (List Event)) → reader.waiting ≡ option_to_list result ++ rest
    → IfSome result (λ batch. (fed : List ℕ) (taken : List (List Event)) → HasRead whole fed taken → HasRead (record reader { waiting = rest }) fed (taken ++ batch ∷ []))
stands_after reader whole same None rest is = tt
stands_after reader whole same (Some batch) rest is = λ fed taken stands. stands_taken reader fed taken batch rest is (subst (λ r. HasRead r fed taken) (sym same) stands)

pub ended_after : (reader whole : ReaderState) → reader ≡ whole → (result : Option (List Event)) (rest : List (List Event)) → reader.waiting ≡ option_to_list result ++ rest
    → IfSome result (λ batch. (fed : List ℕ) (taken : List (List Event)) → HasReadToEnd whole fed taken → HasReadToEnd (record reader { waiting = rest }) fed (taken ++ batch ∷ []))
ended_after reader whole same None rest is = tt
ended_after reader whole same (Some batch) rest is = λ fed taken stands. ended_taken reader fed taken batch rest is (subst (λ r. HasReadToEnd r fed taken) (sym same) stands)
