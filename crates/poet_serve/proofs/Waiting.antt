-- What a reader, a desk and a tally are once batches that waited were fed.
use Rattle.std.proofs.Common.{◌≡◌, ◌+◌, ◌<◌, ◌≤◌, ℕ, inl, inr, List, [], ◌∷◌, ◌++◌, length, length-append, refl, sym, ◌∙◌, ap, subst, arith, append_assoc, append-nil}
use Rattle.std.specs.Prelude.{◌⊎◌}
use Rattle.causal_base.specs.declared.entry.Entry.{Entry}
use Rattle.causal_base.specs.declared.event.Event.{Event}
use Rattle.causal_base.specs.Journal.{IsSettled}
use Rattle.causal_base.specs.Types.{TypeTable}
use Rattle.raw_reader.specs.ReaderState.{ReaderState, HasRead, HasReadToEnd}
use Rattle.raw_reader.specs.Texts.{events_of}
use Rattle.raw_reader.specs.declared.limits.TheConstants.{MOST_INPUT}
use Rattle.raw_reader.proofs.CallerLemmas.{closed_stays, stands_closed, ended_closed}
use Rattle.poet_serve.specs.declared.report.Stop.{Stop}
use Rattle.poet_serve.specs.declared.report.Stop.TheVariants.{End, Read, Line, Full, Memory}
use Rattle.poet_serve.specs.Reading.{AreBatchesOf, CountsStop}
use Rattle.poet_serve.specs.Tallies.{TallyState, HasTaken, HasTakenFrom, IsCutShort, IsStopped, total_of}
use Rattle.poet_serve.proofs.Few.{events_append, few_events}
use Rattle.poet_serve.proofs.Taken.{taken_count}

-- as many events were counted as were taken
has_total : (types : TypeTable) (collector : ℕ) (start : List Entry) (events : List Event) (journal : List Entry) (tally : TallyState) → HasTaken types collector start events journal tally → total_of tally ≡ length events
has_total types collector start events journal tally has = ap total_of has.tally_is ∙ taken_count types collector events start journal has.counted has.takes

-- Batches that waited at first were fed.
pub record HasFedWaiting (first reader : ReaderState) (types : TypeTable) (collector : ℕ) (before journal : List Entry) (tally later : TallyState) : Type 0 where
  pub given : List (List Event)
  pub waited : first.waiting ≡ given ++ reader.waiting
  pub same : reader ≡ record first { waiting = reader.waiting }
  pub going_on : (fed : List ℕ) (taken : List (List Event)) → HasRead first fed taken → HasRead reader fed (taken ++ given)
  pub at_end : (fed : List ℕ) (taken : List (List Event)) → HasReadToEnd first fed taken → HasReadToEnd reader fed (taken ++ given)
  pub took : (start : List Entry) (events : List Event) → HasTaken types collector start events before tally → HasTaken types collector start (events ++ events_of given) journal later
  pub settled : IsSettled types before → IsSettled types journal

-- none was fed yet
pub waiting_none : (first : ReaderState) (types : TypeTable) (collector : ℕ) (before : List Entry) (tally : TallyState) → HasFedWaiting first first types collector before before tally tally
waiting_none first types collector before tally = record {
  given = [];
  waited = refl;
  same = refl;
  going_on = λ fed taken stands. subst (HasRead first fed) (sym (append-nil taken)) stands;
  at_end = λ fed taken stands. subst (HasReadToEnd first fed) (sym (append-nil taken)) stands;
  took = λ start events has. subst (λ es. HasTaken types collector start es before tally) (sym (append-nil events)) has;
  settled = λ settled. settled;
}

module _ (first reader : ReaderState) (types : TypeTable) (collector : ℕ) (before journal : List Entry) (tally later : TallyState) (now : HasFedWaiting first reader types collector before journal tally later) where
  -- one more is fed
  pub waiting_more : (batch : List Event) (reader' : ReaderState) (journal' : List Entry) (later' : TallyState) → reader.waiting ≡ batch ∷ reader'.waiting → reader' ≡ record reader { waiting = reader'.waiting }
      → ((fed : List ℕ) (taken : List (List Event)) → HasRead reader fed taken → HasRead reader' fed (taken ++ batch ∷ []))
      → ((fed : List ℕ) (taken : List (List Event)) → HasReadToEnd reader fed taken → HasReadToEnd reader' fed (taken ++ batch ∷ []))
      → ((start : List Entry) (events : List Event) → HasTaken types collector start events journal later → HasTaken types collector start (events ++ batch) journal' later')
      → IsSettled types journal' → HasFedWaiting first reader' types collector before journal' tally later'
  waiting_more batch reader' journal' later' is rest stands at_end fed settled = record {
    given = now.given ++ batch ∷ [];
    waited = now.waited ∙ (ap (λ w. now.given ++ w) is ∙ sym (append_assoc now.given (batch ∷ []) reader'.waiting));
    same = rest ∙ ap (λ (r : ReaderState). record r { waiting = reader'.waiting }) now.same;
    going_on = λ bytes taken standing. subst (HasRead reader' bytes) (append_assoc taken now.given (batch ∷ [])) (stands bytes (taken ++ now.given) (now.going_on bytes taken standing));
    at_end = λ bytes taken standing. subst (HasReadToEnd reader' bytes) (append_assoc taken now.given (batch ∷ [])) (at_end bytes (taken ++ now.given) (now.at_end bytes taken standing));
    took = λ start events has. subst (λ es. HasTaken types collector start es journal' later')
        (append_assoc events (events_of now.given) batch ∙ ap (λ es. events ++ es) (ap (λ es. events_of now.given ++ es) (sym (append-nil batch)) ∙ sym (events_append now.given (batch ∷ []))))
        (fed start (events ++ events_of now.given) (now.took start events has));
    settled = λ was. settled;
  }

  module _ (types_are : first.types ≡ types) where
    its_types : reader.types ≡ types
    its_types = ap (λ (r : ReaderState). r.types) now.same ∙ types_are

    -- what was taken from the reader at first, is taken from it now
    pub waiting_from : (Stands : ReaderState → List ℕ → List (List Event) → Type 0) → ((fed : List ℕ) (taken : List (List Event)) → Stands first fed taken → Stands reader fed (taken ++ now.given))
        → (start : List Entry) (fed : List ℕ) → HasTakenFrom Stands collector start first fed before tally → HasTakenFrom Stands collector start reader fed journal later
    waiting_from Stands stands start fed has =
        let taken = subst (λ (t : TypeTable). HasTaken t collector start (events_of has.batches) before tally) types_are has.taken in
        let settled = subst (λ (t : TypeTable). IsSettled t start → IsSettled t before) types_are has.settled in
        record {
          batches = has.batches ++ now.given;
          stands = stands fed has.batches has.stands;
          taken = subst (λ (t : TypeTable). HasTaken t collector start (events_of (has.batches ++ now.given)) journal later) (sym its_types)
              (subst (λ es. HasTaken types collector start es journal later) (sym (events_append has.batches now.given)) (now.took start (events_of has.batches) taken));
          settled = subst (λ (t : TypeTable). IsSettled t start → IsSettled t journal) (sym its_types) (λ at_start. now.settled (settled at_start));
        }

    -- the events of a batch that waits fit in the counts
    module _ (batch : List Event) (rest : List (List Event)) (is : reader.waiting ≡ batch ∷ rest) where
      whole : (taken : List (List Event)) → events_of (taken ++ first.waiting) ≡ (events_of taken ++ events_of now.given) ++ (batch ++ events_of rest)
      whole taken =
          let given : events_of (now.given ++ batch ∷ rest) ≡ events_of now.given ++ (batch ++ events_of rest) = events_append now.given (batch ∷ rest) in
          events_append taken first.waiting ∙ (ap (λ w. events_of taken ++ events_of w) (now.waited ∙ ap (λ w. now.given ++ w) is) ∙ (ap (λ es. events_of taken ++ es) given ∙ sym (append_assoc (events_of taken) (events_of now.given) (batch ++ events_of rest))))

      fits : (start : List Entry) (taken : List (List Event)) → HasTaken first.types collector start (events_of taken) before tally → length (events_of (taken ++ first.waiting)) ≤ MOST_INPUT → total_of later + length batch < 4294967296
      fits start taken has few =
          let its = subst (λ (t : TypeTable). HasTaken t collector start (events_of taken) before tally) types_are has in
          let total = has_total types collector start (events_of taken ++ events_of now.given) journal later (now.took start (events_of taken) its) in
          let all = ap length (whole taken) ∙ length-append (events_of taken ++ events_of now.given) (batch ++ events_of rest) in
          let both = length-append batch (events_of rest) in
          omega (arith, total, all, both, few)

      pub fits_from : (start : List Entry) (fed : List ℕ) → HasTakenFrom HasRead collector start first fed before tally ⊎ HasTakenFrom HasReadToEnd collector start first fed before tally → total_of later + length batch < 4294967296
      fits_from start fed has = elim has [
        | inl on ↦ fits start on.batches on.taken (few_events first.types fed (on.batches ++ first.waiting) (inl (stands_closed first fed on.batches on.stands)))
        | inr ended ↦ fits start ended.batches ended.taken (few_events first.types fed (ended.batches ++ first.waiting) (ended_closed first fed ended.batches ended.stands))
      ]

      -- it stopped at an event of this batch
      module _ (stop : Stop) (journal' : List Entry) (later' : TallyState) (cut : (start : List Entry) (events : List Event) → HasTaken types collector start events journal later → IsCutShort types collector start (events ++ batch) journal' later' stop) where
        stopped : (stop' : Stop) → stop ≡ stop' → (bytes left : List ℕ) (taken : List (List Event)) → AreBatchesOf types bytes (taken ++ first.waiting) → (start : List Entry) → IsCutShort types collector start ((events_of taken ++ events_of now.given) ++ batch) journal' later' stop' → IsStopped types collector start bytes left stop' journal' later'
        stopped End same bytes left taken are start short = absurd short
        stopped Read same bytes left taken are start short = absurd short
        stopped (Line error) same bytes left taken are start short = absurd short
        stopped (Full id) same bytes left taken are start short = record {
          events = short.0;
          read = (
            taken ++ first.waiting,
            short.1,
            short.2 ++ events_of rest,
            are,
            whole taken ∙ (sym (append_assoc (events_of taken ++ events_of now.given) batch (events_of rest)) ∙ (ap (λ es. es ++ events_of rest) short.3 ∙ append_assoc short.0 (short.1 ∷ short.2) (events_of rest))),
            short.4,
          );
          taken = short.5;
          limit = short.6;
          settled = λ memory at_start. short.7;
        }
        stopped Memory same bytes left taken are start short = record {
          events = short.0;
          read = (
            taken ++ first.waiting,
            short.1 ++ events_of rest,
            are,
            whole taken ∙ (sym (append_assoc (events_of taken ++ events_of now.given) batch (events_of rest)) ∙ (ap (λ es. es ++ events_of rest) short.2 ∙ append_assoc short.0 short.1 (events_of rest))),
          );
          taken = short.3;
          limit = tt;
          settled = λ memory at_start. absurd (memory refl);
        }

        stopped_with : (bytes left : List ℕ) (start : List Entry) (taken : List (List Event)) → HasTaken first.types collector start (events_of taken) before tally → AreBatchesOf types bytes (taken ++ first.waiting) → IsStopped types collector start bytes left stop journal' later'
        stopped_with bytes left start taken has are =
            let its = subst (λ (t : TypeTable). HasTaken t collector start (events_of taken) before tally) types_are has in
            stopped stop refl bytes left taken are start (cut start (events_of taken ++ events_of now.given) (now.took start (events_of taken) its))

        pub stopped_on : (start : List Entry) (fed more left : List ℕ) → HasTakenFrom HasRead collector start first fed before tally → IsStopped first.types collector start (fed ++ more) left stop journal' later'
        stopped_on start fed more left on = subst (λ (t : TypeTable). IsStopped t collector start (fed ++ more) left stop journal' later') (sym types_are)
            (stopped_with (fed ++ more) left start on.batches on.taken (subst (λ (t : TypeTable). AreBatchesOf t (fed ++ more) (on.batches ++ first.waiting)) types_are
            (inl (closed_stays first.types fed more (on.batches ++ first.waiting) (stands_closed first fed on.batches on.stands)))))

        pub stopped_at_end : (start : List Entry) (fed left : List ℕ) → HasTakenFrom HasReadToEnd collector start first fed before tally → IsStopped first.types collector start fed left stop journal' later'
        stopped_at_end start fed left ended = subst (λ (t : TypeTable). IsStopped t collector start fed left stop journal' later') (sym types_are)
            (stopped_with fed left start ended.batches ended.taken (subst (λ (t : TypeTable). AreBatchesOf t fed (ended.batches ++ first.waiting)) types_are (ended_closed first fed ended.batches ended.stands)))

        cut_counts : (stop' : Stop) (start : List Entry) (all : List Event) → IsCutShort types collector start all journal' later' stop' → (count : ℕ) → CountsStop stop' count count
        cut_counts End start all short count = absurd short
        cut_counts Read start all short count = absurd short
        cut_counts (Line error) start all short count = absurd short
        cut_counts (Full id) start all short count = refl
        cut_counts Memory start all short count = refl

        pub counts_no_read : (start : List Entry) (fed : List ℕ) → HasTakenFrom HasRead collector start first fed before tally ⊎ HasTakenFrom HasReadToEnd collector start first fed before tally → (count : ℕ) → CountsStop stop count count
        counts_no_read start fed has =
            let by_batches : (taken : List (List Event)) → HasTaken first.types collector start (events_of taken) before tally → (count : ℕ) → CountsStop stop count count = λ taken its. cut_counts stop start _
            (cut start (events_of taken ++ events_of now.given) (now.took start (events_of taken) (subst (λ (t : TypeTable). HasTaken t collector start (events_of taken) before tally) types_are its))) in
            elim has [
              | inl on ↦ by_batches on.batches on.taken
              | inr ended ↦ by_batches ended.batches ended.taken
            ]

    -- the reader has read what it had read, with the batches that were fed
    pub waiting_stands : (start : List Entry) (fed : List ℕ) → HasTakenFrom HasRead collector start first fed before tally ⊎ HasTakenFrom HasReadToEnd collector start first fed before tally → (taken : List (List Event)) × (HasRead reader fed taken ⊎ HasReadToEnd reader fed taken)
    waiting_stands start fed has = elim has [
      | inl on ↦ (on.batches ++ now.given, inl (now.going_on fed on.batches on.stands))
      | inr ended ↦ (ended.batches ++ now.given, inr (now.at_end fed ended.batches ended.stands))
    ]
