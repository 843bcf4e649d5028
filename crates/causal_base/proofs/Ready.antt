use Rattle.std.proofs.Common.{◌≡◌, ◌<◌, ◌≤◌, ℕ, inl, inr, length, List, ◌∷◌, refl, sym, ◌∙◌, ap, subst, arith, Some, None}
use Rattle.std.specs.Prelude.{Contains, IfSome, slice_get}
use Rattle.std.proofs.lemmas.Bool.{cases_lt}
use Rattle.std.proofs.lemmas.Option.{slice_get_within}
use Rattle.std.specs.Option.{option_map}
use Rattle.std.proofs.lemmas.List.Sums.{count_by-le-length}
use Rattle.std.specs.Prelude.{◌==◌}
use Rattle.causal_base.specs.declared.block.Block.{Block}
use Rattle.causal_base.specs.declared.block.Block.TheVariants.{One, Two}
use Rattle.causal_base.specs.declared.event.Event.{Event}
use Rattle.causal_base.specs.declared.event_id.EventId.{EventId}
use Rattle.causal_base.specs.Types.{TypeTable}
use Rattle.causal_base.specs.Event.{IsFit, IsInRange, Fits}
use Rattle.causal_base.specs.History.{EventBlock, alone, all_events, count_on, IsNextOfTrace, IsReady, MayFollow}
use Rattle.causal_base.specs.Past.{event_of, HasTrace, IsEnabledAmong, IsHistoryOf}
use Rattle.causal_base.proofs.Ids.{same_id, event_of-member, event_of-only}
use Rattle.causal_base.proofs.Members.{Contains-cons}
use Rattle.causal_base.proofs.Numbered.{IsNumbered, number_within, event_at}
use Rattle.causal_base.proofs.Histories.{numbered}
use Rattle.causal_base.proofs.Pasts.{delivery_of-one, delivery_of-two}
use Rattle.causal_base.proofs.Pigeons.{length-numbered}

-- an event that came is found by its id
pub event_of-among : (types : TypeTable) (events : List Event) (history : List EventBlock) → IsHistoryOf types events history → (e : Event) → Contains events e → event_of events e.id ≡ Some e
event_of-among types events history basis e there = event_of-only events e there (λ x inside same. basis.own_ids x e inside there same)

module _ (types : TypeTable) (events : List Event) (history : List EventBlock) (basis : IsHistoryOf types events history) where
  pub delivered_numbered_among : IsNumbered (all_events history)
  delivered_numbered_among = numbered types history basis.causal

  -- an event that came with a number up to the count of its trace was delivered
  pub delivered_from_number_among : (e : Event) → Contains events e → e.id.number ≤ count_on e.id.trace (all_events history) → Contains (all_events history) e
  delivered_from_number_among e there most =
      let least = (basis.fit e there).id.least in
      let found = event_at (all_events history) delivered_numbered_among e.id.trace e.id.number least most in
      let same = basis.own_ids found.0 e (basis.came_first found.0 found.1) there (same_id found.0.id e.id found.2 found.3) in
      subst (Contains (all_events history)) same found.1

  pub number_from_delivered_among : (e : Event) → Contains (all_events history) e → e.id.number ≤ count_on e.id.trace (all_events history)
  number_from_delivered_among e there = (number_within (all_events history) delivered_numbered_among e there).1

  -- an event that came, is next of its trace and waits for no other is enabled
  pub enabled_from_ready : (e : Event) → Contains events e → IsNextOfTrace (all_events history) e → IsReady types (all_events history) e → IsEnabledAmong types events history (One e.id)
  enabled_from_ready e there next ready = record {
    delivery = alone e;
    came_in = ap (λ o. option_map alone o) (event_of-among types events history basis e there);
    waiting = ((λ gone. let most = number_from_delivered_among e gone in omega (arith, most, next)), tt);
    may_follow = (next, ready);
  }

  -- and what is enabled alone is such an event
  pub ready_from_enabled : (a : EventId) → IsEnabledAmong types events history (One a) → (e : Event) × Contains events e × (e.id ≡ a) × IsNextOfTrace (all_events history) e × IsReady types (all_events history) e
  ready_from_enabled a enabled =
      let found = delivery_of-one events a enabled.delivery enabled.came_in in
      let member = event_of-member events a found.0 found.1 in
      let follows = subst (MayFollow types history) found.2 enabled.may_follow in
      (found.0, member.0, member.1, follows.0, follows.1)

  -- the events that were delivered are no more than those that came
  pub length-delivered : length (all_events history) ≤ length events
  length-delivered = length-numbered (all_events history) delivered_numbered_among events (basis.came_first)

  pub count-le-came : (trace : ℕ) → count_on trace (all_events history) ≤ length events
  count-le-came trace =
      let at_most = count_by-le-length (λ (e : Event). e.id.trace == trace) (all_events history) in
      omega (arith, at_most, length-delivered)

  -- the numbers of a trace that are delivered are in range
  pub count-le-most : (trace : ℕ) → count_on trace (all_events history) ≤ 1_000_000
  count-le-most trace = elim (cases_lt 0 (count_on trace (all_events history))) [
    | inl some ↦
        let last = event_at (all_events history) delivered_numbered_among trace (count_on trace (all_events history)) (omega (arith, some)) (omega arith) in
        let most = (basis.fit last.0 (basis.came_first last.0 last.1)).id.most in
        omega (arith, most, last.3)
    | inr none ↦ omega (arith, none)
  ]

  -- where one is still to be delivered, fewer were delivered than came
  pub length-delivered-lt : (e : Event) → Contains events e → IsNextOfTrace (all_events history) e → length (all_events history) < length events
  length-delivered-lt e there next =
      let all = length-numbered (e ∷ all_events history) (next, delivered_numbered_among) events
      (λ x inside. elim (Contains-cons e (all_events history) x inside) [ inl is ↦ subst (Contains events) is there | inr gone ↦ basis.came_first x gone ]) in
      omega (arith, all)

  -- an event that fits the event that it names waits for that one alone
  pub cause_is_named : (e cause : Event) (mate : EventId) → e.mate ≡ Some mate → Contains events cause → cause.id ≡ mate → (x : Event) → Contains (all_events history) x → Fits types e x → x ≡ cause
  cause_is_named e cause mate names there is x gone fits =
      let same : Some x.id ≡ Some mate = sym fits.names ∙ names in
      let its : x.id ≡ mate = cc in
      basis.own_ids x cause (basis.came_first x gone) there (its ∙ sym is)

-- a fit event has a type of the table
pub type_in_range : (types : TypeTable) (e : Event) → IsFit types e → e.type_no < length types.rows
type_in_range types e fit =
    elim (slice_get types.rows e.type_no) as (λ o. slice_get types.rows e.type_no ≡ o → option_map (λ row. row.kind) o ≡ Some fit.kind → e.type_no < length types.rows) [
      | None ↦ λ is kind. absurd cc
      | Some row ↦ λ is kind. slice_get_within types.rows e.type_no row is
    ] refl fit.is_of_kind

-- what a fit event names is in range
pub mate_in_range : (types : TypeTable) (e : Event) (mate : EventId) → IsFit types e → e.mate ≡ Some mate → IsInRange types mate
mate_in_range types e mate fit names = subst (λ o. IfSome o (IsInRange types)) names fit.mate_in_range

-- an enabled block has a trace of the table
pub trace_of_enabled : (types : TypeTable) (events : List Event) (history : List EventBlock) → IsHistoryOf types events history → (block : Block) → IsEnabledAmong types events history block → (trace : ℕ) × HasTrace block trace × (trace < types.traces)
trace_of_enabled types events history basis (One a) enabled =
    let found = delivery_of-one events a enabled.delivery enabled.came_in in
    let member = event_of-member events a found.0 found.1 in
    let range = (basis.fit found.0 member.0).id in
    (a.trace, refl, subst (λ (i : EventId). i.trace < types.traces) member.1 range.trace)
trace_of_enabled types events history basis (Two a b) enabled =
    let found = delivery_of-two events a b enabled.delivery enabled.came_in in
    let member = event_of-member events a found.0 found.2 in
    let range = (basis.fit found.0 member.0).id in
    (a.trace, inl refl, subst (λ (i : EventId). i.trace < types.traces) member.1 range.trace)
