-- What one delivery more changes.
use Rattle.std.proofs.Common.{◌≡◌, ◌≢◌, ◌<◌, ◌≤◌, ◌⊎◌, ℕ, List, ◌∷◌, inl, inr, sym, ◌∙◌, ap, subst, arith}
use Rattle.std.specs.Prelude.{Contains}
use Rattle.causal_base.specs.declared.block.Block.{Block}
use Rattle.causal_base.specs.declared.block.Block.TheVariants.{One, Two}
use Rattle.causal_base.specs.declared.event.Event.{Event}
use Rattle.causal_base.specs.declared.event_id.EventId.{EventId}
use Rattle.causal_base.specs.Types.{TypeTable}
use Rattle.causal_base.specs.History.{EventBlock, alone, together, all_events, count_on, IsNextOfTrace, IsReady}
use Rattle.causal_base.specs.Past.{HasEvent, HasTrace, IsEnabledAmong, IsHistoryOf}
use Rattle.causal_base.proofs.CallerLemmas.{AreNextPartners, Contains-cons, Contains-here, Contains-there, count_on-other, number_from_delivered_among}
use Rattle.partner_match.specs.Waiting.{Waits, waiting_for}
use Rattle.delivery.specs.TraceSets.{IsIn}
use Rattle.delivery.specs.Deliveries.{AllWait, IsReadySet}
use Rattle.delivery.proofs.Leaders.{IsOf, ready_delivered, wait_delivered}
use Rattle.delivery.proofs.Looks.{AreLooked}

module _ (types : TypeTable) (events : List Event) (history : List EventBlock) (basis : IsHistoryOf types events history) where
  -- an event that is next of its trace isn't delivered
  not_yet : (e : Event) → IsNextOfTrace (all_events history) e → HasEvent (all_events history) e.id → ⊥
  not_yet e next has =
      let most = number_from_delivered_among types events history basis has.0 has.1 in
      let at : e.id.number ≤ count_on e.id.trace (all_events history) = subst (λ (i : EventId). i.number ≤ count_on i.trace (all_events history)) has.2 most in
      omega (arith, at, next)

  -- Of all enabled blocks one has a trace; and the set before and after the looks.
  abbrev pub IsShared : Type 0
  IsShared = (a b : Block) → IsEnabledAmong types events history a → IsEnabledAmong types events history b → (trace : ℕ) → HasTrace a trace → HasTrace b trace → a ≡ b

  -- One event goes.
  module _ (a : EventId) (e : Event) (there : Contains events e) (is : e.id ≡ a) (next : IsNextOfTrace (all_events history) e) (ready : IsReady types (all_events history) e) where
    pub history_one : IsHistoryOf types events (alone e ∷ history)
    history_one = record {
      fit = basis.fit;
      own_ids = basis.own_ids;
      causal = ((next, ready), basis.causal);
      came_first = λ x gone. elim (Contains-cons e (all_events history) x gone) [ inl same ↦ subst (Contains events) same there | inr before ↦ basis.came_first x before ];
    }

    same_count_one : (trace : ℕ) → (HasTrace (One a) trace → ⊥) → count_on trace (all_events (alone e ∷ history)) ≡ count_on trace (all_events history)
    same_count_one trace apart = count_on-other trace e (all_events history) (λ same. apart (ap (λ (i : EventId). i.trace) (sym is) ∙ same))

    grows_one : (x : Event) → Contains (all_events history) x → Contains (all_events (alone e ∷ history)) x
    grows_one x before = Contains-there e (all_events history) x before

    split_one : (x : Event) → Contains (all_events (alone e ∷ history)) x → Contains (all_events history) x ⊎ IsOf (One a) x.id
    split_one x gone = elim (Contains-cons e (all_events history) x gone) [ inl same ↦ inr (ap (λ (v : Event). v.id) (sym same) ∙ is) | inr before ↦ inl before ]

    fresh_one : (id : EventId) → IsOf (One a) id → HasEvent (all_events history) id → ⊥
    fresh_one id its has = not_yet e next (subst (HasEvent (all_events history)) (its ∙ sym is) has)

    gone_one : (id : EventId) → IsOf (One a) id → HasEvent (all_events (alone e ∷ history)) id
    gone_one id its = (e, Contains-here e (all_events history), is ∙ sym its)

    module _ (enabled : IsEnabledAmong types events history (One a)) (one : IsShared) (waits : Waits) (all : AllWait events history waits) where
      pub ready_one : (before removed set : List ℕ) → IsReadySet types events history before → types.traces ≤ 256
          → ((other : ℕ) → other < 256 → (IsIn removed other → IsIn before other × (other ≢ a.trace)) × (IsIn before other × (other ≢ a.trace) → IsIn removed other))
          → AreLooked types events (alone e ∷ history) (λ trace. (trace ≡ a.trace) ⊎ Contains (waiting_for waits a) trace) removed set
          → IsReadySet types events (alone e ∷ history) set
      ready_one before removed set was most taken looked =
          ready_delivered types events history (alone e ∷ history) basis history_one (One a) enabled one same_count_one grows_one split_one fresh_one gone_one before set waits was all most
          (λ other below is apart. looked.kept other below ((taken other below).1 (is, apart)))
          (λ other below is. elim (looked.sound other below is) [ inl left ↦ inl ((taken other below).0 left) | inr leads ↦ inr leads ])
          (λ other trace is has on. looked.found other trace is has (inl (sym on)))
          (λ other trace mate is has its waiting. looked.found other trace is has (inr (subst (λ i. Contains (waiting_for waits i) trace) its waiting)))

      pub wait_one : (after : Waits) → ((other : EventId) → other ≢ a → waiting_for after other ≡ waiting_for waits other) → AllWait events (alone e ∷ history) after
      wait_one after others = wait_delivered types events history (alone e ∷ history) basis history_one (One a) enabled one same_count_one grows_one split_one fresh_one gone_one waits after all others

  -- Two partners go.
  module _ (a b : EventId) (x y : Event) (is_x : x.id ≡ a) (is_y : y.id ≡ b) (both : AreNextPartners types events history x y) where
    pub history_two : IsHistoryOf types events (together x y ∷ history)
    history_two = record {
      fit = basis.fit;
      own_ids = basis.own_ids;
      causal = ((both.first_next, both.second_next, both.pairs, both.lower), basis.causal);
      came_first = λ v gone. elim (Contains-cons y (x ∷ all_events history) v gone) [
        | inl same ↦ subst (Contains events) same both.second_came
        | inr rest ↦ elim (Contains-cons x (all_events history) v rest) [ inl same ↦ subst (Contains events) same both.first_came | inr before ↦ basis.came_first v before ]
      ];
    }

    same_count_two : (trace : ℕ) → (HasTrace (Two a b) trace → ⊥) → count_on trace (all_events (together x y ∷ history)) ≡ count_on trace (all_events history)
    same_count_two trace apart =
        count_on-other trace y (x ∷ all_events history) (λ same. apart (inr (ap (λ (i : EventId). i.trace) (sym is_y) ∙ same)))
        ∙ count_on-other trace x (all_events history) (λ same. apart (inl (ap (λ (i : EventId). i.trace) (sym is_x) ∙ same)))

    grows_two : (v : Event) → Contains (all_events history) v → Contains (all_events (together x y ∷ history)) v
    grows_two v before = Contains-there y (x ∷ all_events history) v (Contains-there x (all_events history) v before)

    split_two : (v : Event) → Contains (all_events (together x y ∷ history)) v → Contains (all_events history) v ⊎ IsOf (Two a b) v.id
    split_two v gone = elim (Contains-cons y (x ∷ all_events history) v gone) [
      | inl same ↦ inr (inr (ap (λ (w : Event). w.id) (sym same) ∙ is_y))
      | inr rest ↦ elim (Contains-cons x (all_events history) v rest) [ inl same ↦ inr (inl (ap (λ (w : Event). w.id) (sym same) ∙ is_x)) | inr before ↦ inl before ]
    ]

    fresh_two : (id : EventId) → IsOf (Two a b) id → HasEvent (all_events history) id → ⊥
    fresh_two id its has = elim its [
      | inl first ↦ not_yet x both.first_next (subst (HasEvent (all_events history)) (first ∙ sym is_x) has)
      | inr second ↦ not_yet y both.second_next (subst (HasEvent (all_events history)) (second ∙ sym is_y) has)
    ]

    gone_two : (id : EventId) → IsOf (Two a b) id → HasEvent (all_events (together x y ∷ history)) id
    gone_two id its = elim its [
      | inl first ↦ (x, Contains-there y (x ∷ all_events history) x (Contains-here x (all_events history)), is_x ∙ sym first)
      | inr second ↦ (y, Contains-here y (x ∷ all_events history), is_y ∙ sym second)
    ]

    module _ (enabled : IsEnabledAmong types events history (Two a b)) (one : IsShared) (waits : Waits) (all : AllWait events history waits) where
      pub ready_two : (before removed set : List ℕ) → IsReadySet types events history before → types.traces ≤ 256
          → ((other : ℕ) → other < 256 → (IsIn removed other → IsIn before other × (other ≢ a.trace)) × (IsIn before other × (other ≢ a.trace) → IsIn removed other))
          → AreLooked types events (together x y ∷ history) (λ trace. ((trace ≡ a.trace) ⊎ (trace ≡ b.trace)) ⊎ (Contains (waiting_for waits a) trace ⊎ Contains (waiting_for waits b) trace)) removed set
          → IsReadySet types events (together x y ∷ history) set
      ready_two before removed set was most taken looked =
          ready_delivered types events history (together x y ∷ history) basis history_two (Two a b) enabled one same_count_two grows_two split_two fresh_two gone_two before set waits was all most
          (λ other below is apart. looked.kept other below ((taken other below).1 (is, apart)))
          (λ other below is. elim (looked.sound other below is) [ inl left ↦ inl ((taken other below).0 left) | inr leads ↦ inr leads ])
          (λ other trace is has on. looked.found other trace is has (inl (elim on [ inl first ↦ inl (sym first) | inr second ↦ inr (sym second) ])))
          (λ other trace mate is has its waiting. looked.found other trace is has (inr (elim its [
            | inl first ↦ inl (subst (λ i. Contains (waiting_for waits i) trace) first waiting)
            | inr second ↦ inr (subst (λ i. Contains (waiting_for waits i) trace) second waiting)
          ])))

      pub wait_two : (after : Waits) → ((other : EventId) → (IsOf (Two a b) other → ⊥) → waiting_for after other ≡ waiting_for waits other) → AllWait events (together x y ∷ history) after
      wait_two after others = wait_delivered types events history (together x y ∷ history) basis history_two (Two a b) enabled one same_count_two grows_two split_two fresh_two gone_two waits after all others
