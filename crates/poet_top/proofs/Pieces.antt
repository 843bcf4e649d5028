-- What a reader and a list are after a piece of the text, and at its end.
use Rattle.std.proofs.Common.{◌≡◌, ◌≢◌, ◌⊎◌, ℕ, inl, inr, List, [], ◌++◌, Option, Some, None, sym, ◌∙◌, ap, subst, append-nil}
use Rattle.std.specs.Prelude.{MatchOption}
use Rattle.causal_base.specs.declared.entry.Entry.{Entry}
use Rattle.causal_base.specs.declared.event.Event.{Event}
use Rattle.causal_base.specs.Types.{TypeTable}
use Rattle.raw_reader.specs.declared.cause.LineCause.TheVariants.{Oom}
use Rattle.raw_reader.specs.declared.cause.LineError.{LineError}
use Rattle.raw_reader.specs.ReaderState.{ReaderState, ReadsOn, RanOut, MetFault, HasRead, HasReadToEnd}
use Rattle.raw_reader.specs.Texts.{events_of, IsGoodText, HasFault}
use Rattle.raw_reader.proofs.CallerLemmas.{known_stays_on}
use Rattle.poet_top.specs.Ask.{HasBadLine}
use Rattle.poet_top.specs.Taking.{HasTaken, HasTakenFrom, HasTakenAll}
use Rattle.poet_top.proofs.Counted.{taken_few}

-- the reader has read more, and nothing was taken
pub stands_for_more : (Stands More : ReaderState → List ℕ → List (List Event) → Type 0) (reader later : ReaderState) (fed now : List ℕ) (journal : List Entry) → later.types ≡ reader.types
    → ((taken : List (List Event)) → Stands reader fed taken → More later now taken) → HasTakenFrom Stands reader fed journal → HasTakenFrom More later now journal
stands_for_more Stands More reader later fed now journal types stands has = record {
  taken = has.taken;
  stands = stands has.taken has.stands;
  events = subst (λ (t : TypeTable). HasTaken t (events_of has.taken) journal) (sym types) has.events;
}

module _ (reader : ReaderState) (fed : List ℕ) (journal : List Entry) (none_waits : reader.waiting ≡ []) where
  all_taken : (taken : List (List Event)) → taken ++ reader.waiting ≡ taken
  all_taken taken = ap (λ waiting. taken ++ waiting) none_waits ∙ append-nil taken

  -- a fault that the reader met
  pub bad_line : (more : List ℕ) (error : LineError) → reader.refusal ≡ Some error → error.cause ≢ Oom → HasTakenFrom HasRead reader fed journal → HasBadLine reader.types (fed ++ more) error
  bad_line more error refusal cause has =
      elim (subst (λ o. MatchOption o (ReadsOn reader fed has.taken) (λ e. RanOut reader fed has.taken e ⊎ MetFault reader fed has.taken e)) refusal has.stands) [
        | inl out ↦ absurd (cause out.cause)
        | inr met ↦ record {
          batches = has.taken;
          fault = record { lines = met.lines; fault = inl (known_stays_on reader.types fed more met.lines error met.fault); closed = met.batches ∙ all_taken has.taken };
          few = taken_few reader.types (events_of has.taken) journal has.events;
        }
      ]

  at_end : (refusal : Option LineError) (taken : List (List Event)) → reader.refusal ≡ refusal → HasReadToEnd reader fed taken
      → MatchOption refusal (IsGoodText reader.types fed taken) (λ e. RanOut reader fed taken e ⊎ HasFault reader.types fed taken e)
  at_end refusal taken is stands = subst (λ batches. MatchOption refusal (IsGoodText reader.types fed batches) (λ e. RanOut reader fed taken e ⊎ HasFault reader.types fed batches e)) (all_taken taken)
      (subst (λ o. MatchOption o (IsGoodText reader.types fed (taken ++ reader.waiting)) (λ e. RanOut reader fed taken e ⊎ HasFault reader.types fed (taken ++ reader.waiting) e)) is stands)

  -- and one at the end
  pub bad_end : (error : LineError) → reader.refusal ≡ Some error → error.cause ≢ Oom → HasTakenFrom HasReadToEnd reader fed journal → HasBadLine reader.types fed error
  bad_end error refusal cause has = elim (at_end (Some error) has.taken refusal has.stands) [
    | inl out ↦ absurd (cause out.cause)
    | inr fault ↦ record { batches = has.taken; fault = fault; few = taken_few reader.types (events_of has.taken) journal has.events }
  ]

  -- no fault until the end
  pub good_end : reader.refusal ≡ None → HasTakenFrom HasReadToEnd reader fed journal → HasTakenAll reader.types fed journal
  good_end refusal has = record { batches = has.taken; good = at_end None has.taken refusal has.stands; events = has.events }
