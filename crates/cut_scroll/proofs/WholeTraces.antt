-- A cut is consistent where it is whole on each trace, which the clock of its last event there tells.
use Rattle.std.proofs.Common.{◌≡◌, ◌<◌, ◌≤◌, ℕ, inl, inr, List, length, refl, sym, ◌∙◌, ap, arith}
use Rattle.std.specs.Prelude.{◌↔◌, slice_index}
use Rattle.std.proofs.lemmas.Bool.{cases_lt}
use Rattle.causal_base.specs.declared.entry.Entry.{Entry}
use Rattle.causal_base.specs.declared.event_id.EventId.{EventId}
use Rattle.causal_base.specs.Clocks.{HasClocks}
use Rattle.causal_base.specs.History.{count_on}
use Rattle.causal_base.specs.Journal.{IsLegal, delivered_by}
use Rattle.causal_base.specs.Types.{TypeTable}
use Rattle.causal_base.proofs.CallerLemmas.{make_id, same_id}
use Rattle.cut_scroll.specs.Cuts.{IsConsistent}
use Rattle.cut_scroll.specs.Parts.{HasPastOf, IsWholeOn}
use Rattle.cut_scroll.proofs.ConsistentCuts.{count_past}
use Rattle.cut_scroll.proofs.DeliveredEvents.{clock_limit, event_on, number_least, on_a_trace, reached_is_there, reaches_past}

module _ (types : TypeTable) (journal : List Entry) (legal : IsLegal types journal) (cut : List ℕ) (traces : length cut ≡ types.traces) where
  -- a cut has all that reaches an event exactly where no number of its clock is above its count
  pub past_by_clock : (id : EventId) (clock : List ℕ) → length clock ≡ types.traces → HasClocks types (delivered_by journal) id clock → ((trace : ℕ) → slice_index clock trace ≤ slice_index cut trace) ↔ HasPastOf types (delivered_by journal) cut id
  past_by_clock id clock long clocks = (
    (λ within x e is reaches.
        let there = reached_is_there types (delivered_by journal) x e reaches in
        let limit = clock_limit types journal legal id e there is x.id.trace (slice_index clock x.id.trace) (clocks x.id.trace (on_a_trace types journal legal x reaches.among)) in
        let most = limit.from x reaches.among refl reaches in
        let below = within x.id.trace in
        omega (arith, most, below)),
    (λ past trace. elim (cases_lt trace types.traces) [
      | inr beyond ↦ let none = count_past clock types.traces trace long beyond in omega (arith, none)
      | inl low ↦ elim (cases_lt 0 (slice_index clock trace)) [
        | inr none ↦ omega (arith, none)
        | inl some ↦
            let has = clocks trace low in
            let limit = clock_limit types journal legal id has.e has.among has.id_is trace (slice_index clock trace) has in
            let last = event_on types journal legal trace (slice_index clock trace) some limit.most in
            let reaches = limit.to last.0 last.1 last.2 (omega (arith, last.3)) in
            let inside = past last.0 has.e has.id_is reaches in
            let same = ap (slice_index cut) last.2 in
            omega (arith, inside, same, last.3)
      ]
    ]),
  )

  -- it is whole on a trace of which it has nothing
  pub whole_without : (trace : ℕ) → slice_index cut trace ≡ 0 → IsWholeOn types (delivered_by journal) cut trace
  whole_without trace none = record {
    most = omega (arith, none);
    past = λ x e reaches on has.
        let least = number_least types journal legal e (reached_is_there types (delivered_by journal) x e reaches) in
        let same = ap (slice_index cut) on in
        absurd (omega (arith, least, same, none, has));
  }

  -- and on another where it has all that reaches its last event there
  pub whole_by_last : (trace : ℕ) → 1 ≤ slice_index cut trace → slice_index cut trace ≤ count_on trace (delivered_by journal) → HasPastOf types (delivered_by journal) cut (make_id trace (slice_index cut trace)) ↔ IsWholeOn types (delivered_by journal) cut trace
  whole_by_last trace some most = (
    (λ past.
        let last = event_on types journal legal trace (slice_index cut trace) some most in
        record {
          most = most;
          past = λ x e reaches on has.
              let same = ap (slice_index cut) on in
              past x last.0 (same_id last.0.id (make_id trace (slice_index cut trace)) last.2 last.3)
              (reaches_past types journal legal x e last.0 last.1 (on ∙ sym last.2) (omega (arith, has, same, last.3)) reaches);
        }),
    (λ whole x e is reaches.
        let on = ap (λ (i : EventId). i.trace) is in
        let same = ap (slice_index cut) on in
        let number = ap (λ (i : EventId). i.number) is in
        whole.past x e reaches on (omega (arith, same, number))),
  )

  -- it is consistent where it is whole on each trace
  pub consistent_by_traces : ((trace : ℕ) → trace < types.traces → IsWholeOn types (delivered_by journal) cut trace) → IsConsistent types (delivered_by journal) cut
  consistent_by_traces each = record {
    is_cut = record { traces = traces; within = λ trace low. (each trace low).most };
    whole = λ x e reaches has. (each e.id.trace (on_a_trace types journal legal e (reached_is_there types (delivered_by journal) x e reaches))).past x e reaches refl has;
  }

  pub whole_from_consistent : IsConsistent types (delivered_by journal) cut → (trace : ℕ) → trace < types.traces → IsWholeOn types (delivered_by journal) cut trace
  whole_from_consistent consistent trace low = record {
    most = consistent.is_cut.within trace low;
    past = λ x e reaches on has. consistent.whole x e reaches has;
  }
