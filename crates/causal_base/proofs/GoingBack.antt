-- Going back over an entry of a journal, for the clock of an event.
use Rattle.std.proofs.Common.{◌≡◌, ◌<◌, ◌≤◌, ◌+◌, ℕ, suc, zero, ◌⊎◌, inl, inr, length, List, [], ◌∷◌, ◌++◌, reverse, take, drop, refl, sym, ◌∙◌, ap, subst, arith, Some, true, false}
use Rattle.std.specs.Prelude.{Contains, slice_get, slice_index, slice_index_or}
use Rattle.std.proofs.lemmas.Bool.{leb-true, le-leb}
use Rattle.std.proofs.lemmas.List.{take-append-drop, reverse-append}
use Rattle.std.proofs.lemmas.List.Elements.{Contains-append_right}
use Rattle.std.proofs.Math.Numerals.{add-one}
use Rattle.causal_base.specs.declared.entry.Entry.{Entry}
use Rattle.causal_base.specs.declared.entry.Entry.TheVariants.{Came, Gone, Pair, Ended}
use Rattle.causal_base.specs.declared.event.Event.{Event}
use Rattle.causal_base.specs.declared.event_id.EventId.{EventId}
use Rattle.causal_base.specs.Types.{TypeTable}
use Rattle.causal_base.specs.Event.{Pairs}
use Rattle.causal_base.specs.Walks.{Reaches}
use Rattle.causal_base.specs.Clocks.{HasClocks}
use Rattle.causal_base.specs.History.{EventBlock, alone, together, events_of, all_events, count_on, IsCausal}
use Rattle.causal_base.specs.Past.{came, event_of, deliveries, delivered, IsLegalPast}
use Rattle.causal_base.specs.Journal.{IsLegal}
use Rattle.causal_base.specs.ClockWalks.{IsUpTo, is_within, IsClockSoFar, TellsReach, Raises, RaisesMate, RaisesCauses, GoesBack}
use Rattle.causal_base.proofs.Ids.{make_id, event_of-member}
use Rattle.causal_base.proofs.Members.{Contains-cons, Contains-here, Contains-there, Contains-one, Contains-nil}
use Rattle.causal_base.proofs.Numbered.{number_within}
use Rattle.causal_base.proofs.ClockLimits.{reaches_later, clock_from_limit}
use Rattle.causal_base.proofs.LegalPasts.{delivered_numbered}
use Rattle.causal_base.proofs.Pasts.{came_fit, causal}
use Rattle.causal_base.proofs.Journals.{reverse-push, came-append}
use Rattle.causal_base.proofs.Causes.{legal_older, gone_event, pair_events, back_over_entry_unmarked, back_over_entry_marked, raises_alone, raises_together}

-- the element at an index that is read
pub slice_get_read : {A : Type 0} (xs : List A) (i : ℕ) (x : A) → i < length xs → x ≡ slice_index_or xs i x → slice_get xs i ≡ Some x
slice_get_read [] i x inside is = absurd (omega arith)
slice_get_read (z ∷ zs) zero x inside is = ap Some (sym is)
slice_get_read (z ∷ zs) (suc i) x inside is = slice_get_read zs i x (omega arith) is

take_next : {A : Type 0} (xs : List A) (k : ℕ) (x : A) → slice_get xs k ≡ Some x → take (suc k) xs ≡ take k xs ++ x ∷ []
take_next [] k x is = absurd cc
take_next (z ∷ zs) zero x is = let same : z ≡ x = cc in ap (λ y. y ∷ []) same
take_next (z ∷ zs) (suc k) x is = ap (λ ys. z ∷ ys) (take_next zs k x is)

module _ (journal : List Entry) (place : ℕ) (entry : Entry) (at : slice_get journal place ≡ Some entry) where
  older : List Entry
  older = reverse (take place journal)

  newer : List Entry
  newer = reverse (drop (suc place) journal)

  front : reverse (take (place + 1) journal) ≡ entry ∷ older
  unfolding older
  front = ap (λ n. reverse (take n journal)) (add-one place) ∙ ap reverse (take_next journal place entry at) ∙ reverse-push (take place journal) entry

  whole : reverse journal ≡ newer ++ entry ∷ older
  unfolding older newer
  whole =
      ap reverse (sym (take-append-drop (suc place) journal))
      ∙ reverse-append (take (suc place) journal) (drop (suc place) journal)
      ∙ ap (λ xs. reverse (drop (suc place) journal) ++ xs) (ap reverse (take_next journal place entry at) ∙ reverse-push (take place journal) entry)

  -- how far going back has come before and after, told of the parts of the journal
  told_before : (types : TypeTable) (end : Event) (clock : List ℕ) → IsClockSoFar types (delivered (reverse journal)) (delivered (reverse (take (place + 1) journal))) end clock → IsClockSoFar types (delivered (newer ++ entry ∷ older)) (delivered (entry ∷ older)) end clock
  told_before types end clock so_far =
      subst (λ past. IsClockSoFar types (delivered past) (delivered (entry ∷ older)) end clock) whole
      (subst (λ past. IsClockSoFar types (delivered (reverse journal)) (delivered past) end clock) front so_far)

  told_after : (types : TypeTable) (end : Event) (clock : List ℕ) → IsClockSoFar types (delivered (newer ++ entry ∷ older)) (delivered older) end clock → IsClockSoFar types (delivered (reverse journal)) (delivered (reverse (take place journal))) end clock
  unfolding older
  told_after types end clock so_far = subst (λ past. IsClockSoFar types (delivered past) (delivered older) end clock) (sym whole) so_far

  legal_whole : (types : TypeTable) → IsLegal types journal → IsLegalPast types (newer ++ entry ∷ older)
  legal_whole types legal = subst (IsLegalPast types) whole legal

-- two that are delivered together are partners
pairs_of_causal : (types : TypeTable) (past : List Entry) (x y : Event) → IsCausal types (together x y ∷ deliveries past) → Pairs types x y
pairs_of_causal types past x y h = h.0.2

-- an entry that is no delivery delivers nothing
delivers_nothing : (entry : Entry) (past : List Entry) → ((a : EventId) → entry ≡ Gone a → ⊥) → ((a b : EventId) → entry ≡ Pair a b → ⊥) → deliveries (entry ∷ past) ≡ deliveries past
delivers_nothing (Came collector e) past not_gone not_pair = refl
delivers_nothing (Gone a) past not_gone not_pair = absurd (not_gone a refl)
delivers_nothing (Pair a b) past not_gone not_pair = absurd (not_pair a b refl)
delivers_nothing (Ended collector) past not_gone not_pair = refl

module _ (types : TypeTable) (journal : List Entry) (legal : IsLegal types journal) (place : ℕ) where
  module _ (entry : Entry) (at : slice_get journal place ≡ Some entry) where
    -- what came before the entry came
    came_earlier : (e : Event) → Contains (came (entry ∷ older journal place entry at)) e → Contains (came (reverse journal)) e
    came_earlier e there =
        subst (λ es. Contains es e) (sym (ap came (whole journal place entry at) ∙ came-append (newer journal place entry at) (entry ∷ older journal place entry at)))
        (Contains-append_right (came (newer journal place entry at)) (came (entry ∷ older journal place entry at)) e there)

    trace_in_table : (e : Event) → Contains (came (entry ∷ older journal place entry at)) e → e.id.trace < types.traces
    trace_in_table e there = (came_fit types (reverse journal) legal e (came_earlier e there)).id.trace

  -- the event that an entry delivered alone
  pub gone_at : (a : EventId) → slice_get journal place ≡ Some (Gone a) → (e : Event) × Contains (came (reverse journal)) e × (e.id ≡ a) × (a.trace < types.traces)
  gone_at a at =
      let gone = gone_event types (newer journal place (Gone a) at) a (older journal place (Gone a) at) (legal_whole journal place (Gone a) at types legal) in
      let member = event_of-member (came (older journal place (Gone a) at)) a gone.0 gone.1 in
      (gone.0, came_earlier (Gone a) at gone.0 member.0, member.1, subst (λ (i : EventId). i.trace < types.traces) member.1 (trace_in_table (Gone a) at gone.0 member.0))

  -- the traces of the partners that an entry delivered
  pub pair_traces : (a b : EventId) → slice_get journal place ≡ Some (Pair a b) → (a.trace < types.traces) × (b.trace < types.traces)
  pair_traces a b at =
      let pair = pair_events types (newer journal place (Pair a b) at) a b (older journal place (Pair a b) at) (legal_whole journal place (Pair a b) at types legal) in
      let first = event_of-member (came (older journal place (Pair a b) at)) a pair.0 pair.2 in
      let second = event_of-member (came (older journal place (Pair a b) at)) b pair.1 pair.3 in (
        subst (λ (i : EventId). i.trace < types.traces) first.1 (trace_in_table (Pair a b) at pair.0 first.0),
        subst (λ (i : EventId). i.trace < types.traces) second.1 (trace_in_table (Pair a b) at pair.1 second.0),
      )

  module _ (end : Event) where
    -- going back over an entry that delivered nothing
    pub back_at_other : (entry : Entry) → slice_get journal place ≡ Some entry → ((a : EventId) → entry ≡ Gone a → ⊥) → ((a b : EventId) → entry ≡ Pair a b → ⊥) → (clock : List ℕ) → GoesBack types journal place end clock clock
    back_at_other entry at not_gone not_pair clock so_far =
        told_after journal place entry at types end clock
        (subst (λ ds. IsClockSoFar types (delivered (newer journal place entry at ++ entry ∷ older journal place entry at)) (all_events ds) end clock)
        (delivers_nothing entry (older journal place entry at) not_gone not_pair) (told_before journal place entry at types end clock so_far))

    module _ (entry : Entry) (at : slice_get journal place ≡ Some entry) (d : EventBlock) (delivers : deliveries (entry ∷ older journal place entry at) ≡ d ∷ deliveries (older journal place entry at)) where
      back_unmarked : (clock : List ℕ) → ((e : Event) → Contains (events_of d) e → is_within clock e.id ≡ false) → GoesBack types journal place end clock clock
      back_unmarked clock unmarked so_far =
          told_after journal place entry at types end clock
          (back_over_entry_unmarked types (newer journal place entry at) end entry (older journal place entry at) d delivers (legal_whole journal place entry at types legal) clock unmarked
          (told_before journal place entry at types end clock so_far))

      back_marked : (before after : List ℕ) (v : Event) → Contains (events_of d) v → is_within before v.id ≡ true → RaisesCauses (events_of d) before after → GoesBack types journal place end before after
      back_marked before after v in_v within raises so_far =
          told_after journal place entry at types end after
          (back_over_entry_marked types (newer journal place entry at) end entry (older journal place entry at) d delivers (legal_whole journal place entry at types legal) before after v in_v within raises
          (told_before journal place entry at types end before so_far))

    -- going back over an entry that delivered one event
    module _ (a : EventId) (at : slice_get journal place ≡ Some (Gone a)) where
      gone : (e : Event) × (event_of (came (older journal place (Gone a) at)) a ≡ Some e) × (deliveries (Gone a ∷ older journal place (Gone a) at) ≡ alone e ∷ deliveries (older journal place (Gone a) at))
      gone = gone_event types (newer journal place (Gone a) at) a (older journal place (Gone a) at) (legal_whole journal place (Gone a) at types legal)

      is_gone : gone.0.id ≡ a
      is_gone = (event_of-member (came (older journal place (Gone a) at)) a gone.0 gone.1).1

      pub back_at_gone_unmarked : (clock : List ℕ) → is_within clock a ≡ false → GoesBack types journal place end clock clock
      back_at_gone_unmarked clock unmarked =
          back_unmarked (Gone a) at (alone gone.0) gone.2 clock (λ e inside.
          subst (λ (v : Event). is_within clock v.id ≡ false) (Contains-one gone.0 e inside) (subst (λ i. is_within clock i ≡ false) (sym is_gone) unmarked))

      pub back_at_gone_marked : (before after : List ℕ) → is_within before a ≡ true → ((e : Event) → Contains (came (reverse journal)) e → e.id ≡ a → RaisesMate e.mate before after) → GoesBack types journal place end before after
      back_at_gone_marked before after within raises =
          let member = event_of-member (came (older journal place (Gone a) at)) a gone.0 gone.1 in
          let its = subst (λ i. is_within before i ≡ true) (sym is_gone) within in
          back_marked (Gone a) at (alone gone.0) gone.2 before after gone.0 (Contains-here gone.0 []) its
          (raises_alone gone.0 before after its (raises gone.0 (came_earlier (Gone a) at gone.0 member.0) is_gone))

    -- going back over an entry that delivered a pair
    module _ (a b : EventId) (at : slice_get journal place ≡ Some (Pair a b)) where
      pair : (x y : Event) × (event_of (came (older journal place (Pair a b) at)) a ≡ Some x) × (event_of (came (older journal place (Pair a b) at)) b ≡ Some y) × (deliveries (Pair a b ∷ older journal place (Pair a b) at) ≡ together x y ∷ deliveries (older journal place (Pair a b) at))
      pair = pair_events types (newer journal place (Pair a b) at) a b (older journal place (Pair a b) at) (legal_whole journal place (Pair a b) at types legal)

      is_first : pair.0.id ≡ a
      is_first = (event_of-member (came (older journal place (Pair a b) at)) a pair.0 pair.2).1

      is_second : pair.1.id ≡ b
      is_second = (event_of-member (came (older journal place (Pair a b) at)) b pair.1 pair.3).1

      are_partners : Pairs types pair.0 pair.1
      are_partners = pairs_of_causal types (older journal place (Pair a b) at) pair.0 pair.1 (subst (IsCausal types) pair.4
          (causal types (Pair a b ∷ older journal place (Pair a b) at) (legal_older types (newer journal place (Pair a b) at) (Pair a b ∷ older journal place (Pair a b) at) (legal_whole journal place (Pair a b) at types legal))))

      pub back_at_pair_unmarked : (clock : List ℕ) → is_within clock a ≡ false → is_within clock b ≡ false → GoesBack types journal place end clock clock
      back_at_pair_unmarked clock first second =
          back_unmarked (Pair a b) at (together pair.0 pair.1) pair.4 clock (λ e inside. elim (Contains-cons pair.1 (pair.0 ∷ []) e inside) [
            | inl is ↦ subst (λ (v : Event). is_within clock v.id ≡ false) is (subst (λ i. is_within clock i ≡ false) (sym is_second) second)
            | inr rest ↦ subst (λ (v : Event). is_within clock v.id ≡ false) (Contains-one pair.0 e rest) (subst (λ i. is_within clock i ≡ false) (sym is_first) first)
          ])

      pub back_at_pair_marked : (before between after : List ℕ) → (is_within before a ≡ true) ⊎ (is_within before b ≡ true) → Raises a before between → Raises b between after → GoesBack types journal place end before after
      back_at_pair_marked before between after within first second =
          let raises = raises_together pair.0 pair.1 before between after are_partners.forth are_partners.back
          (subst (λ i. Raises i before between) (sym is_first) first) (subst (λ i. Raises i between after) (sym is_second) second) in
          elim within [
            | inl its ↦ back_marked (Pair a b) at (together pair.0 pair.1) pair.4 before after pair.0 (Contains-there pair.1 (pair.0 ∷ []) pair.0 (Contains-here pair.0 [])) (subst (λ i. is_within before i ≡ true) (sym is_first) its) raises
            | inr its ↦ back_marked (Pair a b) at (together pair.0 pair.1) pair.4 before after pair.1 (Contains-here pair.1 (pair.0 ∷ [])) (subst (λ i. is_within before i ≡ true) (sym is_second) its) raises
          ]

module _ (types : TypeTable) (journal : List Entry) (legal : IsLegal types journal) (e : Event) (there : Contains (delivered (reverse journal)) e) where
  -- at the start the event itself is within, and all events are still to be looked at
  pub clock_start : (left : ℕ) → take left journal ≡ journal → (before after : List ℕ) → ((trace : ℕ) → slice_index before trace ≡ 0) → Raises e.id before after → IsClockSoFar types (delivered (reverse journal)) (delivered (reverse (take left journal))) e after
  clock_start left all before after none raises = record {
    sound = λ x among within.
        let up = up_to x among within in
        reaches_later types (delivered (reverse journal)) (delivered_numbered types (reverse journal) legal) x e among there up.0 up.1;
    complete = λ x reaches. inr (
      e,
      subst (λ j. Contains (delivered (reverse j)) e) (sym all) there,
      (raises.within e.id).1 (inr (refl, omega arith)),
      subst (λ j. Reaches types (delivered (reverse j)) x e) (sym all) reaches,
    );
    most = λ trace. elim ((raises.within (make_id trace (slice_index after trace))).0 (le-leb (slice_index after trace) (slice_index after trace) (omega arith))) [
      | inl was ↦ (let zero = none trace in let below = leb-true (slice_index after trace) (slice_index before trace) was in omega (arith, zero, below))
      | inr up ↦
          let most = (number_within (delivered (reverse journal)) (delivered_numbered types (reverse journal) legal) e there).1 in
          let most_too : e.id.number ≤ count_on trace (delivered (reverse journal)) = subst (λ t. e.id.number ≤ count_on t (delivered (reverse journal))) (sym up.0) most in
          omega (arith, up.1, most_too)
    ];
  }
    where
      up_to : (x : Event) → Contains (delivered (reverse journal)) x → is_within after x.id ≡ true → IsUpTo e.id x.id
      up_to x among within = elim ((raises.within x.id).0 within) [
        | inl was ↦ absurd (
            let least = (number_within (delivered (reverse journal)) (delivered_numbered types (reverse journal) legal) x among).0 in
            let zero = none x.id.trace in
            let below = leb-true x.id.number (slice_index before x.id.trace) was in
            omega (arith, least, zero, below))
        | inr up ↦ up
      ]

  -- at the end what is within is what reaches the event
  pub reach_end : (clock : List ℕ) → IsClockSoFar types (delivered (reverse journal)) [] e clock → TellsReach types (delivered (reverse journal)) e clock
  reach_end clock so_far x among = (
    (λ within. so_far.sound x among within),
    (λ reaches. elim (so_far.complete x reaches) [ inl within ↦ within | inr found ↦ absurd (Contains-nil found.0 found.1) ]),
  )

  -- and the numbers are the clock
  pub clock_end : (clock : List ℕ) → IsClockSoFar types (delivered (reverse journal)) [] e clock → HasClocks types (delivered (reverse journal)) e.id clock
  clock_end clock so_far trace below = record {
    e = e;
    among = there;
    id_is = refl;
    clock = clock_from_limit types (delivered (reverse journal)) (delivered_numbered types (reverse journal) legal) e trace (slice_index clock trace) (record {
      most = so_far.most trace;
      to = λ x among on few. so_far.sound x among (le-leb x.id.number (slice_index clock x.id.trace) (subst (λ t. x.id.number ≤ slice_index clock t) (sym on) few));
      from = λ x among on reaches. elim (so_far.complete x reaches) [
        | inl within ↦ subst (λ t. x.id.number ≤ slice_index clock t) on (leb-true x.id.number (slice_index clock x.id.trace) within)
        | inr found ↦ absurd (Contains-nil found.0 found.1)
      ];
    });
  }
