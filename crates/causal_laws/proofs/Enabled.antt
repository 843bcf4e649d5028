use Rattle.std.proofs.Common.{◌≡◌, ◌≤◌, ◌⊎◌, inl, inr, List, [], ◌∷◌, ◌++◌, sym, ◌∙◌, ap, subst, arith, Some}
use Rattle.std.specs.Prelude.{Contains}
use Rattle.std.specs.List.{AllByRecursion}
use Rattle.std.specs.Option.{option_map}
use Rattle.std.proofs.lemmas.Bool.{cases_lt}
use Rattle.causal_base.specs.declared.block.Block.{Block}
use Rattle.causal_base.specs.declared.block.Block.TheVariants.{One, Two}
use Rattle.causal_base.specs.declared.entry.Entry.{Entry}
use Rattle.causal_base.specs.declared.entry.Entry.TheVariants.{Came, Gone, Pair, Ended}
use Rattle.causal_base.specs.declared.event.Event.{Event}
use Rattle.causal_base.specs.declared.event_id.EventId.{EventId}
use Rattle.causal_base.specs.Types.{TypeTable}
use Rattle.causal_base.specs.Event.{Pairs}
use Rattle.causal_base.specs.History.{EventBlock, alone, together, events_of, all_events, count_on, IsNextOfTrace, IsReady, MayFollow, IsCausal}
use Rattle.causal_base.specs.Past.{came, event_of, delivery_of, IsEnabledAmong, HasNoNextAmong, IsHistoryOf}
use Rattle.causal_base.proofs.CallerLemmas.{event_of-member, Contains-cons, Contains-here, Contains-there, Contains-nil, IsNumbered, event_at, numbered, Contains-there_events, event_of-among, delivery_of-one, delivery_of-two, delivery_inside, pair_came, delivered_numbered_among, delivered_from_number_among, number_from_delivered_among, Contains-newest, Contains-split, pairs_swapped, partner_is_new}

-- the partner of a delivered event is delivered
partner_delivered : (types : TypeTable) (ds : List EventBlock) → IsCausal types ds → (x y : Event) → Contains (all_events ds) y → Pairs types x y → (v : Event) × Contains (all_events ds) v × (v.id ≡ x.id)
partner_delivered types [] h x y inside pairs = absurd (Contains-nil y inside)
partner_delivered types (d ∷ ds) h x y inside pairs = elim (Contains-split d ds y inside) [
  | inl newest ↦ let v = partner_is_new types ds d h x y newest pairs in (v.0, Contains-newest d ds v.0 v.1, v.2)
  | inr older ↦ let v = partner_delivered types ds h.1 x y older pairs in (v.0, Contains-there_events d (all_events ds) v.0 v.1, v.2)
]

-- what waits for no other trace still waits for none when there are more events
ready_grows : (types : TypeTable) (few more : List Event) (e : Event) → ((x : Event) → Contains few x → Contains more x) → IsReady types few e → IsReady types more e
ready_grows types few more e grows ready = elim ready [
  | inl unary ↦ inl unary
  | inr rest ↦ elim rest [ inl send ↦ inr (inl send) | inr cause ↦ inr (inr (cause.0, grows cause.0 cause.1, cause.2)) ]
]

-- none of the events is delivered yet
abbrev AreWaiting : List EventBlock → List Event → Type 0
AreWaiting history events = AllByRecursion (λ e. Contains (all_events history) e → ⊥) events

abbrev AreDelivered : List EventBlock → List Event → Type 0
AreDelivered history events = (e : Event) → Contains events e → Contains (all_events history) e

module _ (types : TypeTable) (events : List Event) (history : List EventBlock) (basis : IsHistoryOf types events history) where
  -- the next event of a trace after some of the deliveries is delivered, or is the next after them all
  delivered_or_next : (few : List Event) → IsNumbered few → AreDelivered history few → (e : Event) → Contains events e → IsNextOfTrace few e → Contains (all_events history) e ⊎ IsNextOfTrace (all_events history) e
  delivered_or_next few few_numbered grows e there next = elim (cases_lt (count_on e.id.trace (all_events history)) e.id.number) [
    | inr most ↦ inl (delivered_from_number_among types events history basis e there most)
    | inl above ↦ elim (cases_lt 0 (count_on e.id.trace few)) [
      | inr none ↦ inr (omega (arith, above, next, none))
      | inl some ↦
          let last = event_at few few_numbered e.id.trace (count_on e.id.trace few) some (omega arith) in
          let within = number_from_delivered_among types events history basis last.0 (grows last.0 last.1) in
          let within_too : last.0.id.number ≤ count_on e.id.trace (all_events history) = subst (λ t. last.0.id.number ≤ count_on t (all_events history)) last.2 within in
          inr (omega (arith, above, next, within_too, last.3))
    ]
  ]

  not_delivered : (e : Event) → IsNextOfTrace (all_events history) e → Contains (all_events history) e → ⊥
  not_delivered e next gone = let most = number_from_delivered_among types events history basis e gone in omega (arith, most, next)

  -- where an event is delivered, so is its partner
  partner_too : (x y : Event) → Contains events x → Contains (all_events history) y → Pairs types x y → Contains (all_events history) x
  partner_too x y there gone pairs =
      let v = partner_delivered types history basis.causal x y gone pairs in
      subst (Contains (all_events history)) (basis.own_ids v.0 x (basis.came_first v.0 v.1) there v.2) v.1

  -- what may follow some of the deliveries is delivered, or may follow them all
  delivered_or_follows : (few : List EventBlock) → IsNumbered (all_events few) → AreDelivered history (all_events few) → (d : EventBlock) → ((e : Event) → Contains (events_of d) e → Contains events e) → MayFollow types few d → AreDelivered history (events_of d) ⊎ (AreWaiting history (events_of d) × MayFollow types history d)
  delivered_or_follows few few_numbered grows (alone e) there follows = elim (delivered_or_next (all_events few) few_numbered grows e (there e (Contains-here e [])) follows.0) [
    | inl gone ↦ inl (λ x inside. elim (Contains-cons e [] x inside) [ inl is ↦ subst (Contains (all_events history)) is gone | inr none ↦ absurd (Contains-nil x none) ])
    | inr next ↦ inr ((not_delivered e next, tt), (next, ready_grows types (all_events few) (all_events history) e grows follows.1))
  ]
  delivered_or_follows few few_numbered grows (together a b) there follows =
      elim (delivered_or_next (all_events few) few_numbered grows a a_came follows.0) [
        | inl gone ↦ inl (both_gone gone (partner_too b a b_came gone (pairs_swapped types a b follows.2)))
        | inr next_a ↦ elim (delivered_or_next (all_events few) few_numbered grows b b_came follows.1) [
          | inl gone ↦ inl (both_gone (partner_too a b a_came gone follows.2) gone)
          | inr next_b ↦ inr ((not_delivered b next_b, (not_delivered a next_a, tt)), (next_a, next_b, follows.2, follows.3))
        ]
      ]
    where
      a_came : Contains events a
      a_came = there a (Contains-there b (a ∷ []) a (Contains-here a []))

      b_came : Contains events b
      b_came = there b (Contains-here b (a ∷ []))

      both_gone : Contains (all_events history) a → Contains (all_events history) b → (x : Event) → Contains (b ∷ a ∷ []) x → Contains (all_events history) x
      both_gone gone_a gone_b x inside = elim (Contains-cons b (a ∷ []) x inside) [
        | inl is ↦ subst (Contains (all_events history)) is gone_b
        | inr rest ↦ elim (Contains-cons a [] x rest)
            [ inl is ↦ subst (Contains (all_events history)) is gone_a | inr none ↦ absurd (Contains-nil x none) ]
      ]

  -- a settled history has what may follow some of its deliveries
  settled_delivered : HasNoNextAmong types events history → (few : List EventBlock) → IsNumbered (all_events few) → AreDelivered history (all_events few) → (d : EventBlock) → ((e : Event) → Contains (events_of d) e → Contains events e) → MayFollow types few d → AreDelivered history (events_of d)
  settled_delivered settled few few_numbered grows (alone e) there follows = elim (delivered_or_follows few few_numbered grows (alone e) there follows) [
    | inl gone ↦ gone
    | inr still ↦ absurd (settled (One e.id) (record {
      delivery = alone e;
      came_in = ap (λ o. option_map alone o) (event_of-among types events history basis e (there e (Contains-here e [])));
      waiting = still.0;
      may_follow = still.1;
    }))
  ]
  settled_delivered settled few few_numbered grows (together a b) there follows = elim (delivered_or_follows few few_numbered grows (together a b) there follows) [
    | inl gone ↦ gone
    | inr still ↦ absurd (settled (Two a.id b.id) (record {
      delivery = together a b;
      came_in = pair_came types events history basis a b (there a (Contains-there b (a ∷ []) a (Contains-here a []))) (there b (Contains-here b (a ∷ [])));
      waiting = still.0;
      may_follow = still.1;
    }))
  ]

  -- a settled history has all that causal deliveries of events that came deliver
  settled_delivers : HasNoNextAmong types events history → (ds : List EventBlock) → IsCausal types ds → ((e : Event) → Contains (all_events ds) e → Contains events e) → AreDelivered history (all_events ds)
  settled_delivers settled [] h there e inside = absurd (Contains-nil e inside)
  settled_delivers settled (d ∷ ds) h there e inside =
      let before = settled_delivers settled ds h.1 (λ x older. there x (Contains-there_events d (all_events ds) x older)) in
      elim (Contains-split d ds e inside) [
        | inr older ↦ before e older
        | inl newest ↦ settled_delivered settled ds (numbered types ds h.1) before d (λ x its. there x (Contains-newest d ds x its)) h.0 e newest
      ]

-- a settled history has all that another delivers whose events came too
pub settled_has : (types : TypeTable) (events : List Event) (history : List EventBlock) (others : List Event) (other : List EventBlock) → IsHistoryOf types events history → IsHistoryOf types others other → HasNoNextAmong types events history → ((e : Event) → Contains others e → Contains events e) → (e : Event) → Contains (all_events other) e → Contains (all_events history) e
settled_has types events history others other basis other_basis settled came_too e inside =
    settled_delivers types events history basis settled other other_basis.causal (λ x its. came_too x (other_basis.came_first x its)) e inside

-- a block delivers the same after more events came
delivery_stays : (types : TypeTable) (few events : List Event) (history : List EventBlock) → IsHistoryOf types events history → ((e : Event) → Contains few e → Contains events e) → (block : Block) (d : EventBlock) → delivery_of few block ≡ Some d → delivery_of events block ≡ Some d
delivery_stays types few events history basis came_too (One a) d is =
    let found = delivery_of-one few a d is in
    let member = event_of-member few a found.0 found.1 in
    let there = event_of-among types events history basis found.0 (came_too found.0 member.0) in
    let there_too : event_of events a ≡ Some found.0 = subst (λ (id : EventId). event_of events id ≡ Some found.0) member.1 there in
    ap (λ o. option_map alone o) there_too ∙ ap Some (sym found.2)
delivery_stays types few events history basis came_too (Two a b) d is =
    let found = delivery_of-two few a b d is in
    let first = event_of-member few a found.0 found.2 in
    let second = event_of-member few b found.1 found.3 in
    let pair = pair_came types events history basis found.0 found.1 (came_too found.0 first.0) (came_too found.1 second.0) in
    ap (λ (id : EventId). delivery_of events (Two id b)) (sym first.1)
    ∙ (ap (λ (id : EventId). delivery_of events (Two found.0.id id)) (sym second.1) ∙ (pair ∙ ap Some (sym found.4)))

-- an enabled block stays enabled after more came and more is delivered, or its events are delivered
pub stays_enabled : (types : TypeTable) (few : List Event) (before : List EventBlock) (events : List Event) (history : List EventBlock) → IsHistoryOf types few before → IsHistoryOf types events history → ((e : Event) → Contains few e → Contains events e) → AreDelivered history (all_events before) → (block : Block) → (enabled : IsEnabledAmong types few before block) → IsEnabledAmong types events history block ⊎ AreDelivered history (events_of enabled.delivery)
stays_enabled types few before events history basis_before basis came_too grows block enabled =
    elim (delivered_or_follows types events history basis before (delivered_numbered_among types few before basis_before) grows enabled.delivery
    (λ e its. came_too e (delivery_inside few block enabled.delivery enabled.came_in e its)) enabled.may_follow) [
      | inl gone ↦ inr gone
      | inr still ↦ inl (record {
        delivery = enabled.delivery;
        came_in = delivery_stays types few events history basis came_too block enabled.delivery enabled.came_in;
        waiting = still.0;
        may_follow = still.1;
      })
    ]

-- what came stays
pub came_grows : (newer past : List Entry) (e : Event) → Contains (came past) e → Contains (came (newer ++ past)) e
came_grows [] past e inside = inside
came_grows (Came collector x ∷ newer) past e inside = Contains-there x (came (newer ++ past)) e (came_grows newer past e inside)
came_grows (Gone a ∷ newer) past e inside = came_grows newer past e inside
came_grows (Pair a b ∷ newer) past e inside = came_grows newer past e inside
came_grows (Ended collector ∷ newer) past e inside = came_grows newer past e inside
