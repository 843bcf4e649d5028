use Rattle.std.proofs.Common.{◌≡◌, ℕ, ◌⊎◌, inl, inr, List, sym, ◌∙◌, ap, subst, arith}
use Rattle.causal_base.specs.declared.block.Block.{Block}
use Rattle.causal_base.specs.declared.block.Block.TheVariants.{One, Two}
use Rattle.causal_base.specs.declared.event.Event.{Event}
use Rattle.causal_base.specs.declared.event_id.EventId.{EventId}
use Rattle.causal_base.specs.declared.kind.Kind.TheVariants.{Sync}
use Rattle.causal_base.specs.Types.{TypeTable}
use Rattle.causal_base.specs.Event.{IsOfKind, Names}
use Rattle.causal_base.specs.History.{EventBlock, all_events}
use Rattle.causal_base.specs.Past.{HasTrace, IsEnabledAmong, IsHistoryOf, IsNextAmong}
use Rattle.causal_base.proofs.CallerLemmas.{same_name, ready_from_enabled, AreNextPartners, partners_from_enabled, next_of_trace_is_one, ready_no_sync}

module _ (types : TypeTable) (events : List Event) (history : List EventBlock) (basis : IsHistoryOf types events history) where
  -- an event alone and a pair don't share a trace
  one_or_two : (a b d : EventId) → IsEnabledAmong types events history (One a) → IsEnabledAmong types events history (Two b d) → (trace : ℕ) → HasTrace (One a) trace → HasTrace (Two b d) trace → ⊥
  one_or_two a b d one two trace on_one on_two =
      let e = ready_from_enabled types events history basis a one in
      let p = partners_from_enabled types events history basis b d two in
      let on_e : e.0.id.trace ≡ trace = ap (λ (i : EventId). i.trace) e.2 ∙ on_one in
      elim on_two [
        | inl first ↦
            let on_p : p.0.id.trace ≡ trace = ap (λ (i : EventId). i.trace) p.2 ∙ first in
            let same = next_of_trace_is_one types events history basis p.0 e.0 p.4.first_came e.1 p.4.first_next e.3 (on_p ∙ sym on_e) in
            ready_no_sync types (all_events history) e.0 e.4 (subst (λ (x : Event). IsOfKind types x Sync) same p.4.pairs.first)
        | inr second ↦
            let on_p : p.1.id.trace ≡ trace = ap (λ (i : EventId). i.trace) p.3 ∙ second in
            let same = next_of_trace_is_one types events history basis p.1 e.0 p.4.second_came e.1 p.4.second_next e.3 (on_p ∙ sym on_e) in
            ready_no_sync types (all_events history) e.0 e.4 (subst (λ (x : Event). IsOfKind types x Sync) same p.4.pairs.second)
      ]

  -- no event is the first of one pair and the second of another
  no_chain : (w x y z : Event) → AreNextPartners types events history w x → AreNextPartners types events history y z → x ≡ y → ⊥
  no_chain w x y z p q same =
      let names : Names x z = subst (λ (v : Event). Names v z) (sym same) q.pairs.forth in
      let around : w.id.trace ≡ z.id.trace = ap (λ (i : EventId). i.trace) (same_name x w z p.pairs.back names) in
      let meets : x.id.trace ≡ y.id.trace = ap (λ (v : Event). v.id.trace) same in
      omega (arith, p.lower, q.lower, around, meets)

  -- partners that share a trace are the same
  same_partners : (w x y z : Event) → AreNextPartners types events history w x → AreNextPartners types events history y z → (trace : ℕ) → (w.id.trace ≡ trace) ⊎ (x.id.trace ≡ trace) → (y.id.trace ≡ trace) ⊎ (z.id.trace ≡ trace) → (w.id ≡ y.id) × (x.id ≡ z.id)
  same_partners w x y z p q trace on_p on_q = elim on_p [
    | inl first_p ↦ elim on_q [
      | inl first_q ↦
          let same = next_of_trace_is_one types events history basis w y p.first_came q.first_came p.first_next q.first_next (first_p ∙ sym first_q) in
          (ap (λ (v : Event). v.id) same, same_name w x z p.pairs.forth (subst (λ (v : Event). Names v z) (sym same) q.pairs.forth))
      | inr second_q ↦
          let same = next_of_trace_is_one types events history basis z w q.second_came p.first_came q.second_next p.first_next (second_q ∙ sym first_p) in
          absurd (no_chain y z w x q p same)
    ]
    | inr second_p ↦ elim on_q [
      | inl first_q ↦
          let same = next_of_trace_is_one types events history basis x y p.second_came q.first_came p.second_next q.first_next (second_p ∙ sym first_q) in
          absurd (no_chain w x y z p q same)
      | inr second_q ↦
          let same = next_of_trace_is_one types events history basis x z p.second_came q.second_came p.second_next q.second_next (second_p ∙ sym second_q) in
          (same_name x w y p.pairs.back (subst (λ (v : Event). Names v y) (sym same) q.pairs.back), ap (λ (v : Event). v.id) same)
    ]
  ]

  -- the events of a pair have the traces of its ids
  trace_of_pair : (a b : EventId) (x y : Event) → x.id ≡ a → y.id ≡ b → (trace : ℕ) → HasTrace (Two a b) trace → (x.id.trace ≡ trace) ⊎ (y.id.trace ≡ trace)
  trace_of_pair a b x y is_a is_b trace on = elim on [
    | inl first ↦ inl (ap (λ (i : EventId). i.trace) is_a ∙ first)
    | inr second ↦ inr (ap (λ (i : EventId). i.trace) is_b ∙ second)
  ]

  -- enabled blocks that share a trace are one
  pub same_block : (a b : Block) → IsEnabledAmong types events history a → IsEnabledAmong types events history b → (trace : ℕ) → HasTrace a trace → HasTrace b trace → a ≡ b
  same_block (One a) (One b) enabled_a enabled_b trace on_a on_b =
      let x = ready_from_enabled types events history basis a enabled_a in
      let y = ready_from_enabled types events history basis b enabled_b in
      let on_x : x.0.id.trace ≡ trace = ap (λ (i : EventId). i.trace) x.2 ∙ on_a in
      let on_y : y.0.id.trace ≡ trace = ap (λ (i : EventId). i.trace) y.2 ∙ on_b in
      let same = next_of_trace_is_one types events history basis x.0 y.0 x.1 y.1 x.3 y.3 (on_x ∙ sym on_y) in
      ap (λ i. One i) (sym x.2 ∙ (ap (λ (e : Event). e.id) same ∙ y.2))
  same_block (One a) (Two b d) enabled_a enabled_b trace on_a on_b = absurd (one_or_two a b d enabled_a enabled_b trace on_a on_b)
  same_block (Two b d) (One a) enabled_b enabled_a trace on_b on_a = absurd (one_or_two a b d enabled_a enabled_b trace on_a on_b)
  same_block (Two a b) (Two d f) enabled_p enabled_q trace on_p on_q =
      let p = partners_from_enabled types events history basis a b enabled_p in
      let q = partners_from_enabled types events history basis d f enabled_q in
      let same = same_partners p.0 p.1 q.0 q.1 p.4 q.4 trace
      (trace_of_pair a b p.0 p.1 p.2 p.3 trace on_p) (trace_of_pair d f q.0 q.1 q.2 q.3 trace on_q) in
      let firsts : a ≡ d = sym p.2 ∙ (same.0 ∙ q.2) in
      let seconds : b ≡ f = sym p.3 ∙ (same.1 ∙ q.3) in
      ap (λ i. Two i b) firsts ∙ ap (λ i. Two d i) seconds

  -- of two blocks that are next, each has the lowest trace, so they share it
  pub next_is_one : (a b : Block) → IsNextAmong types events history a → IsNextAmong types events history b → a ≡ b
  next_is_one a b next_a next_b =
      let below = next_a.lowest b next_b.trace next_b.enabled next_b.has_trace in
      let above = next_b.lowest a next_a.trace next_a.enabled next_a.has_trace in
      let shared : next_b.trace ≡ next_a.trace = omega (arith, below, above) in
      same_block a b next_a.enabled next_b.enabled next_a.trace next_a.has_trace (subst (HasTrace b) shared next_b.has_trace)
