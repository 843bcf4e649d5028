-- What was taken after a piece of a text, and at its end.
use Rattle.std.proofs.Common.{◌≡◌, ◌⊎◌, ℕ, inl, inr, List, [], ◌++◌, Option, Some, None, refl, sym, ◌∙◌, ap, subst, append-nil}
use Rattle.std.specs.Prelude.{MatchOption}
use Rattle.causal_base.specs.declared.entry.Entry.{Entry}
use Rattle.causal_base.specs.declared.event.Event.{Event}
use Rattle.causal_base.specs.Journal.{IsSettled}
use Rattle.causal_base.specs.Types.{TypeTable}
use Rattle.raw_reader.specs.declared.cause.LineError.{LineError}
use Rattle.raw_reader.specs.ReaderState.{ReaderState, ReadsOn, RanOut, MetFault, HasRead, HasReadToEnd}
use Rattle.raw_reader.specs.Texts.{events_of, BeginsWithBatches, IsGoodText, HasFault}
use Rattle.raw_reader.proofs.CallerLemmas.{closed_stays, ended_closed, known_stays_on, stands_closed}
use Rattle.poet_serve.specs.declared.report.Stop.{Stop}
use Rattle.poet_serve.specs.declared.report.Stop.TheVariants.{End, Memory}
use Rattle.poet_serve.specs.Reading.{AreBatchesOf, CountsStop}
use Rattle.poet_serve.specs.Tallies.{TallyState, HasTaken, HasTakenFrom, IsStopOf, IsStopped}

-- the reader has read more, and nothing was taken
pub stands_for_more : (Stands More : ReaderState → List ℕ → List (List Event) → Type 0) (collector : ℕ) (start : List Entry) (reader later : ReaderState) (fed now : List ℕ) (journal : List Entry) (tally : TallyState) → later.types ≡ reader.types
    → ((taken : List (List Event)) → Stands reader fed taken → More later now taken) → HasTakenFrom Stands collector start reader fed journal tally → HasTakenFrom More collector start later now journal tally
stands_for_more Stands More collector start reader later fed now journal tally types stands has = record {
  batches = has.batches;
  stands = stands has.batches has.stands;
  taken = subst (λ (t : TypeTable). HasTaken t collector start (events_of has.batches) journal tally) (sym types) has.taken;
  settled = subst (λ (t : TypeTable). IsSettled t start → IsSettled t journal) (sym types) has.settled;
}

-- no read failed
pub line_counts : (error : LineError) (stop : Stop) → IsStopOf error stop → (count : ℕ) → CountsStop stop count count
line_counts error stop is count = elim is [
  | inl memory ↦ subst (λ (s : Stop). CountsStop s count count) (sym memory.1) refl
  | inr line ↦ subst (λ (s : Stop). CountsStop s count count) (sym line.1) refl
]

module _ (collector : ℕ) (start : List Entry) (reader : ReaderState) (fed : List ℕ) (journal : List Entry) (tally : TallyState) (none_waits : reader.waiting ≡ []) where
  all_taken : (taken : List (List Event)) → taken ++ reader.waiting ≡ taken
  all_taken taken = ap (λ waiting. taken ++ waiting) none_waits ∙ append-nil taken

  -- it ran out of memory
  at_memory : (bytes left : List ℕ) (has : HasTakenFrom HasRead collector start reader fed journal tally) → AreBatchesOf reader.types bytes has.batches → IsStopped reader.types collector start bytes left Memory journal tally
  at_memory bytes left has are = record {
    events = events_of has.batches;
    read = (has.batches, [], are, sym (append-nil (events_of has.batches)));
    taken = has.taken;
    limit = tt;
    settled = λ memory at_start. absurd (memory refl);
  }

  -- a line that the reader refused
  pub refused : (more left : List ℕ) (error : LineError) (stop : Stop) → reader.refusal ≡ Some error → IsStopOf error stop → HasTakenFrom HasRead collector start reader fed journal tally → IsStopped reader.types collector start (fed ++ more) left stop journal tally
  refused more left error stop refusal is has = elim is [
    | inl memory ↦ subst (λ (s : Stop). IsStopped reader.types collector start (fed ++ more) left s journal tally) (sym memory.1)
        (at_memory (fed ++ more) left has (inl (closed_stays reader.types fed more has.batches
        (subst (λ bs. BeginsWithBatches reader.types fed bs) (all_taken has.batches) (stands_closed reader fed has.batches has.stands)))))
    | inr line ↦ subst (λ (s : Stop). IsStopped reader.types collector start (fed ++ more) left s journal tally) (sym line.1)
        (elim (subst (λ o. MatchOption o (ReadsOn reader fed has.batches) (λ e. RanOut reader fed has.batches e ⊎ MetFault reader fed has.batches e)) refusal has.stands) [
          | inl out ↦ absurd (line.0 out.cause)
          | inr met ↦ record {
            events = events_of has.batches;
            read = (has.batches, record { lines = met.lines; fault = inl (known_stays_on reader.types fed more met.lines error met.fault); closed = met.batches ∙ all_taken has.batches }, refl);
            taken = has.taken;
            limit = tt;
            settled = λ memory at_start. has.settled at_start;
          }
        ])
  ]

  at_end : (refusal : Option LineError) (taken : List (List Event)) → reader.refusal ≡ refusal → HasReadToEnd reader fed taken
      → MatchOption refusal (IsGoodText reader.types fed taken) (λ e. RanOut reader fed taken e ⊎ HasFault reader.types fed taken e)
  at_end refusal taken is stands = subst (λ batches. MatchOption refusal (IsGoodText reader.types fed batches) (λ e. RanOut reader fed taken e ⊎ HasFault reader.types fed batches e)) (all_taken taken)
      (subst (λ o. MatchOption o (IsGoodText reader.types fed (taken ++ reader.waiting)) (λ e. RanOut reader fed taken e ⊎ HasFault reader.types fed (taken ++ reader.waiting) e)) is stands)

  -- the end of a good text
  pub good_end : reader.refusal ≡ None → HasTakenFrom HasReadToEnd collector start reader fed journal tally → IsStopped reader.types collector start fed [] End journal tally
  good_end refusal has = record {
    events = events_of has.batches;
    read = (refl, (has.batches, at_end None has.batches refusal has.stands, refl));
    taken = has.taken;
    limit = tt;
    settled = λ memory at_start. has.settled at_start;
  }

  -- and of one with a fault
  pub bad_end : (error : LineError) (stop : Stop) → reader.refusal ≡ Some error → IsStopOf error stop → HasTakenFrom HasReadToEnd collector start reader fed journal tally → IsStopped reader.types collector start fed [] stop journal tally
  bad_end error stop refusal is has = elim is [
    | inl memory ↦ subst (λ (s : Stop). IsStopped reader.types collector start fed [] s journal tally) (sym memory.1) (record {
      events = events_of has.batches;
      read = (has.batches, [], subst (λ bs. AreBatchesOf reader.types fed bs) (all_taken has.batches) (ended_closed reader fed has.batches has.stands), sym (append-nil (events_of has.batches)));
      taken = has.taken;
      limit = tt;
      settled = λ memory at_start. absurd (memory refl);
    })
    | inr line ↦ subst (λ (s : Stop). IsStopped reader.types collector start fed [] s journal tally) (sym line.1)
        (elim (at_end (Some error) has.batches refusal has.stands) [
          | inl out ↦ absurd (line.0 out.cause)
          | inr fault ↦ record {
            events = events_of has.batches;
            read = (has.batches, fault, refl);
            taken = has.taken;
            limit = tt;
            settled = λ memory at_start. has.settled at_start;
          }
        ])
  ]
