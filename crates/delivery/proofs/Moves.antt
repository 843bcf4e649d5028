-- The parts of a delivery after a block went, over the past that its entry makes.
use Rattle.std.proofs.Common.{◌≡◌, ◌≢◌, ◌<◌, ◌+◌, ◌⊎◌, ℕ, List, ◌∷◌, length, inl, inr, refl, sym, ◌∙◌, ap, subst, arith, Some}
use Rattle.std.specs.Prelude.{Contains}
use Rattle.causal_base.specs.declared.block.Block.TheVariants.{One, Two}
use Rattle.causal_base.specs.declared.entry.Entry.{Entry}
use Rattle.causal_base.specs.declared.entry.Entry.TheVariants.{Came, Gone, Pair}
use Rattle.causal_base.specs.declared.event.Event.{Event}
use Rattle.causal_base.specs.declared.event_id.EventId.{EventId}
use Rattle.causal_base.specs.Types.{TypeTable}
use Rattle.causal_base.specs.Event.{IsFit}
use Rattle.causal_base.specs.History.{EventBlock, alone, together, IsNextOfTrace, IsReady, MayFollow}
use Rattle.causal_base.specs.Past.{came, deliveries, delivered, event_of, HasEvent, IsEnabled, IsHistoryOf}
use Rattle.causal_base.proofs.CallerLemmas.{AreNextPartners, Contains-cons, deliveries-next, delivery_of-one, delivery_of-two, event_of-member, length-delivered, length-delivered-lt}
use Rattle.partner_match.specs.Waiting.{Waits, waiting_for}
use Rattle.delivery.specs.TraceSets.{IsIn}
use Rattle.delivery.specs.Deliveries.{AllWait, AreParts, IsReadySet}
use Rattle.delivery.proofs.Leaders.{IsOf, enabled_behind, history_more, ready_came}
use Rattle.delivery.proofs.Looks.{AreLooked}
use Rattle.delivery.proofs.Going.{IsShared, history_one, ready_one, wait_one, history_two, ready_two, wait_two}

-- what is so of events and deliveries is so of equal ones
over : (P : List Event → List EventBlock → Type 0) (es more : List Event) (h later : List EventBlock) → es ≡ more → h ≡ later → P es h → P more later
over P es more h later same also is = subst (λ v. P more v) also (subst (λ v. P v h) same is)

module _ (types : TypeTable) (past : List Entry) (waits : Waits) (ready : List ℕ) (parts : AreParts types past waits ready) where
  -- An event goes.
  module _ (id : EventId) (enabled : IsEnabled types past (One id)) where
    found_one : (e : Event) × (event_of (came past) id ≡ Some e) × (enabled.delivery ≡ alone e)
    found_one = delivery_of-one (came past) id enabled.delivery enabled.came_in

    pub the_event : (e : Event) × (event_of (came past) id ≡ Some e)
    the_event = (found_one.0, found_one.1)

    member_one : Contains (came past) found_one.0 × (found_one.0.id ≡ id)
    member_one = event_of-member (came past) id found_one.0 found_one.1

    follows_one : IsNextOfTrace (delivered past) found_one.0 × IsReady types (delivered past) found_one.0
    follows_one = subst (MayFollow types (deliveries past)) found_one.2 enabled.may_follow

    pub below_one : id.trace < types.traces
    below_one = subst (λ (i : EventId). i.trace < types.traces) member_one.1 (parts.history.fit found_one.0 member_one.0).id.trace

    pub fewer_one : length (delivered past) < length (came past)
    fewer_one = length-delivered-lt types (came past) (deliveries past) parts.history found_one.0 member_one.0 follows_one.0

    module _ (past_after : List Entry) (is_past : past_after ≡ Gone id ∷ past) where
      came_one : came past_after ≡ came past
      came_one = ap came is_past

      deliveries_one : deliveries past_after ≡ alone found_one.0 ∷ deliveries past
      deliveries_one =
          ap deliveries is_past
          ∙ (deliveries-next (came past) (One id) enabled.delivery (deliveries past) enabled.came_in ∙ ap (λ d. d ∷ deliveries past) found_one.2)

      history_after : IsHistoryOf types (came past) (alone found_one.0 ∷ deliveries past)
      history_after = history_one types (came past) (deliveries past) parts.history id found_one.0 member_one.0 member_one.1 follows_one.0 follows_one.1

      pub basis_one : IsHistoryOf types (came past_after) (deliveries past_after)
      basis_one = over (IsHistoryOf types) (came past) (came past_after) (alone found_one.0 ∷ deliveries past) (deliveries past_after) (sym came_one) (sym deliveries_one) history_after

      pub parts_one : (one : IsShared types (came past) (deliveries past) parts.history) (removed set : List ℕ) (after : Waits)
          → ((other : ℕ) → other < 256 → (IsIn removed other → IsIn ready other × (other ≢ id.trace)) × (IsIn ready other × (other ≢ id.trace) → IsIn removed other))
          → AreLooked types (came past_after) (deliveries past_after) (λ trace. (trace ≡ id.trace) ⊎ Contains (waiting_for waits id) trace) removed set
          → ((other : EventId) → other ≢ id → waiting_for after other ≡ waiting_for waits other)
          → AreParts types past_after after set
      parts_one one removed set after taken looked others =
          let e = found_one.0 in
          let later = alone e ∷ deliveries past in
          let most = parts.table.most_traces in
          record {
            table = parts.table;
            history = basis_one;
            ready_set = over (λ es h. IsReadySet types es h set) (came past) (came past_after) later (deliveries past_after) (sym came_one) (sym deliveries_one)
                (ready_one types (came past) (deliveries past) parts.history id e member_one.0 member_one.1 follows_one.0 follows_one.1 enabled one waits parts.all_wait ready removed set parts.ready_set most taken
                (over (λ es h. AreLooked types es h (λ trace. (trace ≡ id.trace) ⊎ Contains (waiting_for waits id) trace) removed set) (came past_after) (came past) (deliveries past_after) later came_one deliveries_one looked));
            all_wait = over (λ es h. AllWait es h after) (came past) (came past_after) later (deliveries past_after) (sym came_one) (sym deliveries_one)
                (wait_one types (came past) (deliveries past) parts.history id e member_one.0 member_one.1 follows_one.0 follows_one.1 enabled one waits parts.all_wait after others);
          }

  -- Two partners go.
  module _ (a b : EventId) (enabled : IsEnabled types past (Two a b)) where
    found_two : (x y : Event) × (event_of (came past) a ≡ Some x) × (event_of (came past) b ≡ Some y) × (enabled.delivery ≡ together x y)
    found_two = delivery_of-two (came past) a b enabled.delivery enabled.came_in

    pub the_first : (x : Event) × (event_of (came past) a ≡ Some x)
    the_first = (found_two.0, found_two.2)

    pub the_second : (y : Event) × (event_of (came past) b ≡ Some y)
    the_second = (found_two.1, found_two.3)

    first_member : Contains (came past) found_two.0 × (found_two.0.id ≡ a)
    first_member = event_of-member (came past) a found_two.0 found_two.2

    second_member : Contains (came past) found_two.1 × (found_two.1.id ≡ b)
    second_member = event_of-member (came past) b found_two.1 found_two.3

    both_next : AreNextPartners types (came past) (deliveries past) found_two.0 found_two.1
    both_next =
        let follows = subst (MayFollow types (deliveries past)) found_two.4 enabled.may_follow in
        record {
          first_came = first_member.0;
          second_came = second_member.0;
          first_next = follows.0;
          second_next = follows.1;
          pairs = follows.2;
          lower = follows.3;
        }

    -- of the events that came these two are still to be delivered
    pub fewer_two : length (delivered past) + 1 < length (came past)
    fewer_two =
        let all = length-delivered types (came past) (together found_two.0 found_two.1 ∷ deliveries past)
        (history_two types (came past) (deliveries past) parts.history a b found_two.0 found_two.1 first_member.1 second_member.1 both_next) in
        omega (arith, all)

    pub lower_two : a.trace < b.trace
    lower_two =
        let first = ap (λ (i : EventId). i.trace) first_member.1 in
        let second = ap (λ (i : EventId). i.trace) second_member.1 in
        let lower = both_next.lower in
        omega (arith, first, second, lower)

    pub below_two : b.trace < types.traces
    below_two = subst (λ (i : EventId). i.trace < types.traces) second_member.1 (parts.history.fit found_two.1 second_member.0).id.trace

    module _ (past_after : List Entry) (is_past : past_after ≡ Pair a b ∷ past) where
      came_two : came past_after ≡ came past
      came_two = ap came is_past

      deliveries_two : deliveries past_after ≡ together found_two.0 found_two.1 ∷ deliveries past
      deliveries_two =
          ap deliveries is_past
          ∙ (deliveries-next (came past) (Two a b) enabled.delivery (deliveries past) enabled.came_in ∙ ap (λ d. d ∷ deliveries past) found_two.4)

      history_after_two : IsHistoryOf types (came past) (together found_two.0 found_two.1 ∷ deliveries past)
      history_after_two = history_two types (came past) (deliveries past) parts.history a b found_two.0 found_two.1 first_member.1 second_member.1 both_next

      pub basis_two : IsHistoryOf types (came past_after) (deliveries past_after)
      basis_two = over (IsHistoryOf types) (came past) (came past_after) (together found_two.0 found_two.1 ∷ deliveries past) (deliveries past_after) (sym came_two) (sym deliveries_two) history_after_two

      pub parts_two : (one : IsShared types (came past) (deliveries past) parts.history) (removed set : List ℕ) (after : Waits)
          → ((other : ℕ) → other < 256 → (IsIn removed other → IsIn ready other × (other ≢ a.trace)) × (IsIn ready other × (other ≢ a.trace) → IsIn removed other))
          → AreLooked types (came past_after) (deliveries past_after) (λ trace. ((trace ≡ a.trace) ⊎ (trace ≡ b.trace)) ⊎ (Contains (waiting_for waits a) trace ⊎ Contains (waiting_for waits b) trace)) removed set
          → ((other : EventId) → (IsOf (Two a b) other → ⊥) → waiting_for after other ≡ waiting_for waits other)
          → AreParts types past_after after set
      parts_two one removed set after taken looked others =
          let x = found_two.0 in
          let y = found_two.1 in
          let later = together x y ∷ deliveries past in
          let most = parts.table.most_traces in
          record {
            table = parts.table;
            history = basis_two;
            ready_set = over (λ es h. IsReadySet types es h set) (came past) (came past_after) later (deliveries past_after) (sym came_two) (sym deliveries_two)
                (ready_two types (came past) (deliveries past) parts.history a b x y first_member.1 second_member.1 both_next enabled one waits parts.all_wait ready removed set parts.ready_set most taken
                (over (λ es h. AreLooked types es h (λ trace. ((trace ≡ a.trace) ⊎ (trace ≡ b.trace)) ⊎ (Contains (waiting_for waits a) trace ⊎ Contains (waiting_for waits b) trace)) removed set) (came past_after) (came past) (deliveries past_after) later came_two deliveries_two looked));
            all_wait = over (λ es h. AllWait es h after) (came past) (came past_after) later (deliveries past_after) (sym came_two) (sym deliveries_two)
                (wait_two types (came past) (deliveries past) parts.history a b x y first_member.1 second_member.1 both_next enabled one waits parts.all_wait after others);
          }

  -- An event comes.
  module _ (collector : ℕ) (e : Event) (fit : IsFit types e) (new : HasEvent (came past) e.id → ⊥) (past_after : List Entry) (is_past : past_after ≡ Came collector e ∷ past) where
    pub basis_came : IsHistoryOf types (came past_after) (deliveries past_after)
    basis_came = over (IsHistoryOf types) (e ∷ came past) (came past_after) (deliveries past) (deliveries past_after) (sym (ap came is_past)) (sym (ap deliveries is_past)) (history_more types e (came past) (deliveries past) parts.history fit new)

    -- behind others of its trace it enables nothing, so a look would find nothing
    pub looked_behind : (IsNextOfTrace (delivered past) e → ⊥) → AreLooked types (came past_after) (deliveries past_after) (λ trace. trace ≡ e.id.trace) ready ready
    looked_behind behind = over (λ es h. AreLooked types es h (λ trace. trace ≡ e.id.trace) ready ready) (e ∷ came past) (came past_after) (deliveries past) (deliveries past_after) (sym (ap came is_past)) (sym (ap deliveries is_past)) (record {
      kept = λ other below is. is;
      sound = λ other below is. inl is;
      found = λ block trace enabled has is. parts.ready_set.complete block (enabled_behind types e (came past) (deliveries past) parts.history fit new behind block enabled);
    })

    pub parts_came : (set : List ℕ) (after : Waits)
        → AreLooked types (came past_after) (deliveries past_after) (λ trace. trace ≡ e.id.trace) ready set
        → ((id : EventId) (trace : ℕ) → Contains (waiting_for waits id) trace → Contains (waiting_for after id) trace)
        → ((mate : EventId) → e.mate ≡ Some mate → (HasEvent (delivered past) mate → ⊥) → Contains (waiting_for after mate) e.id.trace)
        → AreParts types past_after after set
    parts_came set after looked kept waited =
        let most = parts.table.most_traces in
        let here = over (λ es h. AreLooked types es h (λ trace. trace ≡ e.id.trace) ready set) (came past_after) (e ∷ came past) (deliveries past_after) (deliveries past) (ap came is_past) (ap deliveries is_past) looked in
        record {
          table = parts.table;
          history = basis_came;
          ready_set = over (λ es h. IsReadySet types es h set) (e ∷ came past) (came past_after) (deliveries past) (deliveries past_after) (sym (ap came is_past)) (sym (ap deliveries is_past))
              (ready_came types e (came past) (deliveries past) parts.history fit new ready set parts.ready_set here.kept here.sound (λ block enabled has. here.found block e.id.trace enabled has refl) most);
          all_wait = over (λ es h. AllWait es h after) (e ∷ came past) (came past_after) (deliveries past) (deliveries past_after) (sym (ap came is_past)) (sym (ap deliveries is_past))
              (λ x inside mate names absent. elim (Contains-cons e (came past) x inside) [
                | inl is ↦
                    let its = waited mate (ap (λ (v : Event). v.mate) is ∙ names) absent in
                    subst (λ (v : Event). Contains (waiting_for after mate) v.id.trace) is its
                | inr before ↦ kept mate x.id.trace (parts.all_wait x before mate names absent)
              ]);
        }

  -- More wait, and nothing else has changed.
  pub parts_waiting : (after : Waits) → ((id : EventId) (trace : ℕ) → Contains (waiting_for waits id) trace → Contains (waiting_for after id) trace) → AreParts types past after ready
  parts_waiting after kept = record {
    table = parts.table;
    history = parts.history;
    ready_set = parts.ready_set;
    all_wait = λ e inside mate names absent. kept mate e.id.trace (parts.all_wait e inside mate names absent);
  }
