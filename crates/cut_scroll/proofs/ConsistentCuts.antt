-- Which cuts are consistent: joins, meets, the empty cut and that of all events, and an old one.
use Rattle.std.proofs.Common.{◌≡◌, ◌<◌, ◌≤◌, ℕ, inl, inr, List, length, ◌++◌, sym, ◌∙◌, subst, arith}
use Rattle.std.specs.Prelude.{All, Contains, reverse, slice_index}
use Rattle.std.proofs.lemmas.Bool.{cases_lt}
use Rattle.std.proofs.lemmas.List.{get_or_past}
use Rattle.causal_base.specs.declared.entry.Entry.{Entry}
use Rattle.causal_base.specs.declared.event.Event.{Event}
use Rattle.causal_base.specs.History.{count_on}
use Rattle.causal_base.specs.Journal.{IsLegal, delivered_by}
use Rattle.causal_base.specs.Past.{deliveries}
use Rattle.causal_base.specs.Types.{TypeTable}
use Rattle.causal_base.specs.Walks.{Reaches}
use Rattle.causal_base.proofs.CallerLemmas.{same_id}
use Rattle.causal_laws.proofs.Clocks.{count_on-added}
use Rattle.causal_laws.proofs.Earlier.{reaches_back_all}
use Rattle.causal_laws.proofs.Prefixes.{Contains-grows, added, causal_with_added, delivered_with_added, prefix_is_legal}
use Rattle.cut_scroll.specs.Cuts.{IsConsistent, IsIn, joined, met}
use Rattle.cut_scroll.proofs.CutLists.{length-joined, length-met, slice_index-joined, slice_index-met}
use Rattle.cut_scroll.proofs.DeliveredEvents.{event_on, number_least, number_most, on_a_trace, one_event, reached_is_there}

-- a count past the traces is 0
pub count_past : (cut : List ℕ) (traces trace : ℕ) → length cut ≡ traces → traces ≤ trace → slice_index cut trace ≡ 0
count_past cut traces trace long past = get_or_past cut trace 0 (omega (arith, long, past))

module _ (types : TypeTable) (events : List Event) (cut other : List ℕ) (one : IsConsistent types events cut) (two : IsConsistent types events other) where
  as_long : length cut ≡ length other
  as_long = one.is_cut.traces ∙ sym two.is_cut.traces

  pub joined_is_consistent : IsConsistent types events (joined cut other)
  joined_is_consistent = record {
    is_cut = record {
      traces = length-joined cut other as_long ∙ one.is_cut.traces;
      within = λ trace low.
          let first = one.is_cut.within trace low in
          let second = two.is_cut.within trace low in
          let greater = slice_index-joined cut other as_long trace in
          omega (arith, first, second, greater);
    };
    whole = λ x e reaches has.
        let at_e = slice_index-joined cut other as_long e.id.trace in
        let at_x = slice_index-joined cut other as_long x.id.trace in
        elim (cases_lt (slice_index cut e.id.trace) e.id.number) [
          | inr inside ↦ let first = one.whole x e reaches inside in omega (arith, first, at_x)
          | inl out ↦ let second = two.whole x e reaches (omega (arith, out, has, at_e)) in omega (arith, second, at_x)
        ];
  }

  pub met_is_consistent : IsConsistent types events (met cut other)
  met_is_consistent = record {
    is_cut = record {
      traces = length-met cut other as_long ∙ one.is_cut.traces;
      within = λ trace low.
          let first = one.is_cut.within trace low in
          let lesser = slice_index-met cut other as_long trace in
          omega (arith, first, lesser);
    };
    whole = λ x e reaches has.
        let at_e = slice_index-met cut other as_long e.id.trace in
        let at_x = slice_index-met cut other as_long x.id.trace in
        let first = one.whole x e reaches (omega (arith, has, at_e)) in
        let second = two.whole x e reaches (omega (arith, has, at_e)) in
        omega (arith, first, second, at_x);
  }

module _ (types : TypeTable) (journal more : List Entry) (legal : IsLegal types (journal ++ more)) (cut : List ℕ) (was : IsConsistent types (delivered_by journal) cut) where
  count_grows : (trace : ℕ) → count_on trace (delivered_by journal) ≤ count_on trace (delivered_by (journal ++ more))
  count_grows trace =
      subst (λ (events : List Event). count_on trace (delivered_by journal) ≤ count_on trace events) (sym (delivered_with_added types journal more legal))
      (count_on-added trace (added types journal more legal) (deliveries (reverse journal)))

  -- what is delivered in the end, and in the cut, was delivered at first
  was_there : (e : Event) → Contains (delivered_by (journal ++ more)) e → IsIn cut e.id → Contains (delivered_by journal) e
  was_there e there has =
      let first_legal = prefix_is_legal types journal more legal in
      let most = was.is_cut.within e.id.trace (on_a_trace types (journal ++ more) legal e there) in
      let least = number_least types (journal ++ more) legal e there in
      let old = event_on types journal first_legal e.id.trace e.id.number least (omega (arith, most, has)) in
      let still = subst (λ (events : List Event). Contains events old.0) (sym (delivered_with_added types journal more legal))
      (Contains-grows (added types journal more legal) (deliveries (reverse journal)) old.0 old.1) in
      let same = one_event types (journal ++ more) legal old.0 e still there (same_id old.0.id e.id old.2 old.3) in
      subst (λ (v : Event). Contains (delivered_by journal) v) same old.1

  pub stays_consistent : IsConsistent types (delivered_by (journal ++ more)) cut
  stays_consistent = record {
    is_cut = record {
      traces = was.is_cut.traces;
      within = λ trace low. let most = was.is_cut.within trace low in let grows = count_grows trace in omega (arith, most, grows);
    };
    whole = λ x e reaches has.
        let all = delivered_by (journal ++ more) in
        let there = was_there e (reached_is_there types all x e reaches) has in
        was.whole x e (reaches_back_all types (added types journal more legal) (deliveries (reverse journal)) (causal_with_added types journal more legal) x e there
        (subst (λ (events : List Event). Reaches types events x e) (delivered_with_added types journal more legal) reaches)) has;
  }

module _ (types : TypeTable) (journal : List Entry) (legal : IsLegal types journal) (cut : List ℕ) (traces : length cut ≡ types.traces) where
  pub empty_is_consistent : All (λ count. count ≡ 0) cut → IsConsistent types (delivered_by journal) cut
  empty_is_consistent empty = record {
    is_cut = record { traces = traces; within = λ trace low. let none = counts_none trace in omega (arith, none) };
    whole = λ x e reaches has.
        let least = number_least types journal legal e (reached_is_there types (delivered_by journal) x e reaches) in
        let none = counts_none e.id.trace in
        absurd (omega (arith, least, none, has));
  }
    where
      counts_none : (trace : ℕ) → slice_index cut trace ≡ 0
      counts_none trace = elim (cases_lt trace (length cut)) [ inl low ↦ empty trace 0 low | inr past ↦ get_or_past cut trace 0 past ]

  pub whole_is_consistent : ((trace : ℕ) → trace < types.traces → slice_index cut trace ≡ count_on trace (delivered_by journal)) → IsConsistent types (delivered_by journal) cut
  whole_is_consistent all = record {
    is_cut = record { traces = traces; within = λ trace low. let same = all trace low in omega (arith, same) };
    whole = λ x e reaches has.
        let same = all x.id.trace (on_a_trace types journal legal x reaches.among) in
        let most = number_most types journal legal x reaches.among in
        omega (arith, same, most);
  }
