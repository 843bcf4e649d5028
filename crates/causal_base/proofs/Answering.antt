use Rattle.std.proofs.Common.{◌≡◌, ◌≢◌, ◌<◌, ◌≤◌, List, reverse, sym, ◌∙◌, ap, subst, arith, ◌⊎◌, inl, inr, length, Bool, true, false}
use Rattle.std.specs.Prelude.{Contains, IsTrue, ◌↔◌}
use Rattle.causal_base.specs.declared.entry.Entry.{Entry}
use Rattle.causal_base.specs.declared.event.Event.{Event}
use Rattle.causal_base.specs.declared.event_id.EventId.{EventId}
use Rattle.causal_base.specs.Types.{TypeTable}
use Rattle.causal_base.specs.Event.{Pairs}
use Rattle.causal_base.specs.Walks.{Reaches}
use Rattle.causal_base.specs.History.{count_on}
use Rattle.causal_base.specs.Past.{came, delivered, HasEvent}
use Rattle.causal_base.specs.Asked.{SaysWhetherBefore}
use Rattle.causal_base.specs.PlainList.{IsOpenJournal}
use Rattle.causal_base.proofs.Pasts.{came_fit, delivered_came}
use Rattle.causal_base.proofs.Numbered.{same_event}
use Rattle.causal_base.proofs.LegalPasts.{delivered_numbered, delivered_from_number, number_from_delivered}
use Rattle.causal_base.proofs.Ready.{type_in_range}

module _ (types : TypeTable) (journal : List Entry) (kept : IsOpenJournal types journal) where
  -- an event that came has a trace that is counted
  pub came_trace : (id : EventId) (e : Event) → Contains (came (reverse journal)) e → e.id ≡ id → id.trace < 256
  came_trace id e there is =
      let range = (came_fit types (reverse journal) kept.legal e there).id in
      let below = subst (λ (i : EventId). i.trace < types.traces) is range.trace in
      omega (arith, below, kept.table.most_traces)

  -- an id up to the count of its trace is a delivered event's
  pub event_delivered : (id : EventId) (e : Event) → Contains (came (reverse journal)) e → e.id ≡ id → id.number ≤ count_on id.trace (delivered (reverse journal)) → Contains (delivered (reverse journal)) e
  event_delivered id e there is most =
      delivered_from_number types (reverse journal) kept.legal e there (subst (λ (i : EventId). i.number ≤ count_on i.trace (delivered (reverse journal))) (sym is) most)

  -- a number above the count of its trace is none of a delivered event
  pub not_delivered : (id : EventId) → count_on id.trace (delivered (reverse journal)) < id.number → HasEvent (delivered (reverse journal)) id → ⊥
  not_delivered id above there =
      let most = number_from_delivered types (reverse journal) kept.legal there.0 there.1 in
      let below = subst (λ (i : EventId). i.number ≤ count_on i.trace (delivered (reverse journal))) there.2 most in
      omega (arith, below, above)

  pub none_delivered : (id : EventId) → (HasEvent (came (reverse journal)) id → ⊥) → HasEvent (delivered (reverse journal)) id → ⊥
  none_delivered id none there = none (there.0, delivered_came types (reverse journal) kept.legal there.0 there.1, there.2)

  -- another event is before one exactly where it reaches it
  pub says_other : (a b : EventId) (x y : Event) → Contains (delivered (reverse journal)) x → x.id ≡ a → Contains (delivered (reverse journal)) y → y.id ≡ b → a ≢ b → (Pairs types x y → ⊥) → (said : Bool) → IsTrue said ↔ Reaches types (delivered (reverse journal)) x y → SaysWhetherBefore types (delivered (reverse journal)) a b said
  says_other a b x y in_x is_a in_y is_b other not_partners said reach = record {
    first = x;
    first_among = in_x;
    first_id = is_a;
    second = y;
    second_among = in_y;
    second_id = is_b;
    says = (
      (λ yes. record { reaches = reach.0 yes; different = λ same. other (sym is_a ∙ ap (λ (e : Event). e.id) same ∙ is_b); apart = not_partners }),
      (λ before. reach.1 before.reaches),
    );
  }

  -- and neither the same event nor a partner is
  pub says_no : (a b : EventId) (x y : Event) → Contains (delivered (reverse journal)) x → x.id ≡ a → Contains (delivered (reverse journal)) y → y.id ≡ b → (a ≡ b) ⊎ Pairs types x y → SaysWhetherBefore types (delivered (reverse journal)) a b false
  says_no a b x y in_x is_a in_y is_b one = record {
    first = x;
    first_among = in_x;
    first_id = is_a;
    second = y;
    second_among = in_y;
    second_id = is_b;
    says = (
      (λ yes. absurd (let clash : false ≡ true = yes in cc)),
      (λ before. elim one [
        | inl same ↦ absurd (before.different (same_event (delivered (reverse journal)) (delivered_numbered types (reverse journal) kept.legal) x y in_x in_y (is_a ∙ (same ∙ sym is_b))))
        | inr pairs ↦ absurd (before.apart pairs)
      ]),
    );
  }

  -- a delivered event has a type of the table
  pub delivered_type : (e : Event) → Contains (delivered (reverse journal)) e → e.type_no < length types.rows
  delivered_type e gone = type_in_range types e (came_fit types (reverse journal) kept.legal e (delivered_came types (reverse journal) kept.legal e gone))

  -- and its trace is one of the table's
  pub delivered_trace : (id : EventId) → HasEvent (delivered (reverse journal)) id → id.trace < types.traces
  delivered_trace id there =
      let range = (came_fit types (reverse journal) kept.legal there.0 (delivered_came types (reverse journal) kept.legal there.0 there.1)).id in
      subst (λ (i : EventId). i.trace < types.traces) there.2 range.trace
