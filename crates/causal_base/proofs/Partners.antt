use Rattle.std.proofs.Common.{◌≡◌, ◌<◌, ◌+◌, ◌⊎◌, ℕ, inl, inr, List, sym, ◌∙◌, ap, subst, arith, Some}
use Rattle.std.specs.Prelude.{Contains, option_and_then}
use Rattle.std.specs.Option.{option_map}
use Rattle.std.proofs.lemmas.Bool.{cases_lt}
use Rattle.causal_base.specs.declared.block.Block.{Block}
use Rattle.causal_base.specs.declared.block.Block.TheVariants.{One, Two}
use Rattle.causal_base.specs.declared.event.Event.{Event}
use Rattle.causal_base.specs.declared.event_id.EventId.{EventId}
use Rattle.causal_base.specs.Types.{TypeTable}
use Rattle.causal_base.specs.Event.{Pairs}
use Rattle.causal_base.specs.History.{EventBlock, together, all_events, count_on, IsNextOfTrace, IsReady, MayFollow}
use Rattle.causal_base.specs.Past.{event_of, delivery_of, HasTrace, IsEnabledAmong, IsHistoryOf}
use Rattle.causal_base.proofs.Ids.{same_id, event_of-member}
use Rattle.causal_base.proofs.Pasts.{delivery_of-two}
use Rattle.causal_base.proofs.Newest.{pairs_swapped}
use Rattle.causal_base.proofs.Ready.{event_of-among, number_from_delivered_among, ready_from_enabled}

-- two events that came are found by their ids
pub pair_came : (types : TypeTable) (events : List Event) (history : List EventBlock) → IsHistoryOf types events history → (a b : Event) → Contains events a → Contains events b → delivery_of events (Two a.id b.id) ≡ Some (together a b)
pair_came types events history basis a b a_came b_came =
    ap (λ o. option_and_then (λ x. option_map (together x) (event_of events b.id)) o) (event_of-among types events history basis a a_came)
    ∙ ap (λ o. option_map (together a) o) (event_of-among types events history basis b b_came)

-- two partners that came, each the next of its trace, the lower trace first
pub record AreNextPartners (types : TypeTable) (events : List Event) (history : List EventBlock) (x y : Event) : Type 0 where
  pub first_came : Contains events x
  pub second_came : Contains events y
  pub first_next : IsNextOfTrace (all_events history) x
  pub second_next : IsNextOfTrace (all_events history) y
  pub pairs : Pairs types x y
  pub lower : x.id.trace < y.id.trace

module _ (types : TypeTable) (events : List Event) (history : List EventBlock) (basis : IsHistoryOf types events history) where
  -- what is enabled as two are two such partners
  pub partners_from_enabled : (a b : EventId) → IsEnabledAmong types events history (Two a b) → (x y : Event) × (x.id ≡ a) × (y.id ≡ b) × AreNextPartners types events history x y
  partners_from_enabled a b enabled =
      let found = delivery_of-two events a b enabled.delivery enabled.came_in in
      let first = event_of-member events a found.0 found.2 in
      let second = event_of-member events b found.1 found.3 in
      let follows = subst (MayFollow types history) found.4 enabled.may_follow in (
        found.0,
        found.1,
        first.1,
        second.1,
        record {
          first_came = first.0;
          second_came = second.0;
          first_next = follows.0;
          second_next = follows.1;
          pairs = follows.2;
          lower = follows.3;
        },
      )

  -- on one trace one event is next
  pub next_of_trace_is_one : (x y : Event) → Contains events x → Contains events y → IsNextOfTrace (all_events history) x → IsNextOfTrace (all_events history) y → x.id.trace ≡ y.id.trace → x ≡ y
  next_of_trace_is_one x y came_x came_y next_x next_y trace =
      basis.own_ids x y came_x came_y
      (same_id x.id y.id trace (next_x ∙ (ap (λ t. count_on t (all_events history) + 1) trace ∙ sym next_y)))

  -- two partners that came, each the next of its trace, are enabled
  pub enabled_from_partners : (x y : Event) → AreNextPartners types events history x y → IsEnabledAmong types events history (Two x.id y.id)
  enabled_from_partners x y both = record {
    delivery = together x y;
    came_in = pair_came types events history basis x y both.first_came both.second_came;
    waiting = (not_gone y both.second_next, (not_gone x both.first_next, tt));
    may_follow = (both.first_next, both.second_next, both.pairs, both.lower);
  }
    where
      not_gone : (e : Event) → IsNextOfTrace (all_events history) e → Contains (all_events history) e → ⊥
      not_gone e next gone = let most = number_from_delivered_among types events history basis e gone in omega (arith, most, next)

  -- what is enabled on the trace of an event that came and is next of it is that event, or a pair of it
  pub enabled_with : (e : Event) → Contains events e → IsNextOfTrace (all_events history) e → (block : Block) → IsEnabledAmong types events history block → HasTrace block e.id.trace → IsReady types (all_events history) e ⊎ ((p : Event) × Contains events p × Pairs types e p × IsNextOfTrace (all_events history) p)
  enabled_with e there next (One a) enabled on =
      let x = ready_from_enabled types events history basis a enabled in
      let trace : x.0.id.trace ≡ e.id.trace = ap (λ (i : EventId). i.trace) x.2 ∙ on in
      inl (subst (IsReady types (all_events history)) (next_of_trace_is_one x.0 e x.1 there x.3 next trace) x.4)
  enabled_with e there next (Two a b) enabled on =
      let p = partners_from_enabled a b enabled in
      let both = p.4 in
      elim on [
        | inl first ↦
            let trace : p.0.id.trace ≡ e.id.trace = ap (λ (i : EventId). i.trace) p.2 ∙ first in
            let same = next_of_trace_is_one p.0 e both.first_came there both.first_next next trace in
            inr (p.1, both.second_came, subst (λ (v : Event). Pairs types v p.1) same both.pairs, both.second_next)
        | inr second ↦
            let trace : p.1.id.trace ≡ e.id.trace = ap (λ (i : EventId). i.trace) p.3 ∙ second in
            let same = next_of_trace_is_one p.1 e both.second_came there both.second_next next trace in
            inr (p.0, both.first_came, subst (λ (v : Event). Pairs types v p.0) same (pairs_swapped types p.0 p.1 both.pairs), both.first_next)
      ]

  -- such an event and its partner are enabled, the lower trace first
  pub enabled_pair : (e p : Event) → Contains events e → Contains events p → IsNextOfTrace (all_events history) e → IsNextOfTrace (all_events history) p → Pairs types e p → ((e.id.trace < p.id.trace) × IsEnabledAmong types events history (Two e.id p.id)) ⊎ ((p.id.trace < e.id.trace) × IsEnabledAmong types events history (Two p.id e.id))
  enabled_pair e p e_there p_there e_next p_next pairs = elim (cases_lt e.id.trace p.id.trace) [
    | inl lower ↦ inl (lower, enabled_from_partners e p (record { first_came = e_there; second_came = p_there; first_next = e_next; second_next = p_next; pairs = pairs; lower = lower }))
    | inr upper ↦
        let apart = pairs.traces in
        let below : p.id.trace < e.id.trace = omega (arith, upper, apart) in
        inr (below, enabled_from_partners p e (record { first_came = p_there; second_came = e_there; first_next = p_next; second_next = e_next; pairs = pairs_swapped types e p pairs; lower = below }))
  ]

  -- an enabled block on a trace has an event that came and is the next of it
  pub enabled_event : (block : Block) → IsEnabledAmong types events history block → (trace : ℕ) → HasTrace block trace → (e : Event) × Contains events e × (e.id.trace ≡ trace) × IsNextOfTrace (all_events history) e
  enabled_event (One a) enabled trace on =
      let x = ready_from_enabled types events history basis a enabled in
      (x.0, x.1, ap (λ (i : EventId). i.trace) x.2 ∙ on, x.3)
  enabled_event (Two a b) enabled trace on =
      let p = partners_from_enabled a b enabled in
      elim on [
        | inl first ↦ (p.0, p.4.first_came, ap (λ (i : EventId). i.trace) p.2 ∙ first, p.4.first_next)
        | inr second ↦ (p.1, p.4.second_came, ap (λ (i : EventId). i.trace) p.3 ∙ second, p.4.second_next)
      ]
