-- What a cut becomes when it moves to an event, and back before one.
use Rattle.std.proofs.Common.{◌≡◌, ◌<◌, ◌≤◌, ℕ, inl, inr, List, length, refl, ap, arith}
use Rattle.std.specs.Prelude.{Contains, max, slice_index}
use Rattle.std.proofs.lemmas.Bool.{cases_lt}
use Rattle.causal_base.specs.declared.entry.Entry.{Entry}
use Rattle.causal_base.specs.declared.event.Event.{Event}
use Rattle.causal_base.specs.Clocks.{HasClocks}
use Rattle.causal_base.specs.Journal.{IsLegal, delivered_by}
use Rattle.causal_base.specs.Types.{TypeTable}
use Rattle.causal_base.specs.Walks.{Reaches}
use Rattle.causal_base.proofs.CallerLemmas.{IsLimit, reaches_itself, reaches_on}
use Rattle.cut_scroll.specs.Cuts.{IsConsistent, IsGreatestWithout, IsIn, IsLeastWith}
use Rattle.cut_scroll.specs.Parts.{IsUnreached}
use Rattle.cut_scroll.proofs.ConsistentCuts.{count_past}
use Rattle.cut_scroll.proofs.DeliveredEvents.{clock_limit, event_on, on_a_trace, reached_is_there}

module _ (types : TypeTable) (journal : List Entry) (legal : IsLegal types journal) (e : Event) (there : Contains (delivered_by journal) e) (before after : List ℕ) (consistent : IsConsistent types (delivered_by journal) before) (long : length after ≡ types.traces) where
  module _ (clock : List ℕ) (clocks : HasClocks types (delivered_by journal) e.id clock) (short : length clock ≡ types.traces) (raised : (trace : ℕ) → slice_index after trace ≡ max (slice_index before trace) (slice_index clock trace)) where
    limit : (trace : ℕ) → trace < types.traces → IsLimit (delivered_by journal) trace (λ x. Reaches types (delivered_by journal) x e) (slice_index clock trace)
    limit trace low = clock_limit types journal legal e.id e there refl trace (slice_index clock trace) (clocks trace low)

    -- an event that reaches e is within the clock
    within_clock : (x : Event) → Reaches types (delivered_by journal) x e → x.id.number ≤ slice_index clock x.id.trace
    within_clock x reaches = (limit x.id.trace (on_a_trace types journal legal x reaches.among)).from x reaches.among refl reaches

    raised_is_consistent : IsConsistent types (delivered_by journal) after
    raised_is_consistent = record {
      is_cut = record {
        traces = long;
        within = λ trace low.
            let first = consistent.is_cut.within trace low in
            let second = (limit trace low).most in
            let is = raised trace in
            omega (arith, first, second, is);
      };
      whole = λ x y reaches has.
          let at_x = raised x.id.trace in
          let at_y = raised y.id.trace in
          let inside = reached_is_there types (delivered_by journal) x y reaches in
          elim (cases_lt (slice_index before y.id.trace) y.id.number) [
            | inr was ↦ let first = consistent.whole x y reaches was in omega (arith, first, at_x)
            | inl out ↦
                let onward = (limit y.id.trace (on_a_trace types journal legal y inside)).to y inside refl (omega (arith, out, has, at_y)) in
                let second = within_clock x (reaches_on types (delivered_by journal) x y e reaches onward) in
                omega (arith, second, at_x)
          ];
    }

    pub raised_is_least : IsLeastWith types (delivered_by journal) before e after
    raised_is_least = record {
      consistent = raised_is_consistent;
      all = λ trace. let is = raised trace in omega (arith, is);
      has = let its = within_clock e (reaches_itself types (delivered_by journal) e there) in let is = raised e.id.trace in omega (arith, its, is);
      least = λ other whole wide has trace.
          let is = raised trace in
          let first = wide trace in
          elim (cases_lt trace types.traces) [
            | inr past ↦ let none = count_past clock types.traces trace short past in omega (arith, is, first, none)
            | inl low ↦ elim (cases_lt 0 (slice_index clock trace)) [
              | inr none ↦ omega (arith, is, first, none)
              | inl some ↦
                  let last = event_on types journal legal trace (slice_index clock trace) some (limit trace low).most in
                  let reaches = (limit trace low).to last.0 last.1 last.2 (omega (arith, last.3)) in
                  let second = whole.whole last.0 e reaches has in
                  let same = ap (slice_index other) last.2 in
                  omega (arith, is, first, second, same, last.3)
            ]
          ];
    }

  module _ (unreached : (trace : ℕ) → trace < types.traces → IsUnreached types (delivered_by journal) e trace (slice_index before trace) (slice_index after trace)) where
    lower : (trace : ℕ) → slice_index after trace ≤ slice_index before trace
    lower trace = elim (cases_lt trace types.traces) [
      | inl low ↦ (unreached trace low).within
      | inr past ↦ let none = count_past after types.traces trace long past in omega (arith, none)
    ]

    -- an event that was in the cut, and that e doesn't reach, still is
    still_in : (x : Event) → Contains (delivered_by journal) x → IsIn before x.id → (Reaches types (delivered_by journal) e x → ⊥) → IsIn after x.id
    still_in x inside was free = elim (cases_lt (slice_index after x.id.trace) x.id.number) [
      | inr is ↦ is
      | inl out ↦ absurd (free (((unreached x.id.trace (on_a_trace types journal legal x inside)).from x inside refl was).1 out))
    ]

    -- and e reaches none that still is
    not_reached : (x : Event) → Contains (delivered_by journal) x → IsIn after x.id → Reaches types (delivered_by journal) e x → ⊥
    not_reached x inside is reaches =
        let most = lower x.id.trace in
        let out = ((unreached x.id.trace (on_a_trace types journal legal x inside)).from x inside refl (omega (arith, is, most))).0 reaches in
        omega (arith, is, out)

    pub lowered_is_greatest : IsGreatestWithout types (delivered_by journal) before e after
    lowered_is_greatest = record {
      consistent = record {
        is_cut = record { traces = long; within = λ trace low. let most = lower trace in let was = consistent.is_cut.within trace low in omega (arith, most, was) };
        whole = λ x y reaches has.
            let inside = reached_is_there types (delivered_by journal) x y reaches in
            let most = lower y.id.trace in
            still_in x reaches.among (consistent.whole x y reaches (omega (arith, has, most)))
            (λ reached. not_reached y inside has (reaches_on types (delivered_by journal) e x y reached reaches));
      };
      within = lower;
      without = λ has. not_reached e there has (reaches_itself types (delivered_by journal) e there);
      greatest = λ other whole narrow free trace. elim (cases_lt trace types.traces) [
        | inr past ↦ let none = count_past other types.traces trace whole.is_cut.traces past in omega (arith, none)
        | inl low ↦ elim (cases_lt 0 (slice_index other trace)) [
          | inr none ↦ omega (arith, none)
          | inl some ↦
              let last = event_on types journal legal trace (slice_index other trace) some (whole.is_cut.within trace low) in
              let same_other = ap (slice_index other) last.2 in
              let same_before = ap (slice_index before) last.2 in
              let same_after = ap (slice_index after) last.2 in
              let most = narrow trace in
              let is = still_in last.0 last.1 (omega (arith, same_before, most, last.3))
              (λ reached. free (whole.whole e last.0 reached (omega (arith, same_other, last.3)))) in
              omega (arith, is, same_after, last.3)
        ]
      ];
    }
