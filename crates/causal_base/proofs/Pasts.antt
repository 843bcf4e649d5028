use Rattle.std.proofs.Common.{◌≡◌, inl, inr, List, [], ◌∷◌, ◌++◌, refl, sym, ◌∙◌, ap, subst, Some, None}
use Rattle.std.specs.Prelude.{Contains, option_and_then, option_to_list}
use Rattle.std.specs.Option.{option_map}
use Rattle.causal_base.specs.declared.block.Block.{Block}
use Rattle.causal_base.specs.declared.block.Block.TheVariants.{One, Two}
use Rattle.causal_base.specs.declared.entry.Entry.{Entry}
use Rattle.causal_base.specs.declared.entry.Entry.TheVariants.{Came, Gone, Pair, Ended}
use Rattle.causal_base.specs.declared.event.Event.{Event}
use Rattle.causal_base.specs.declared.event_id.EventId.{EventId}
use Rattle.causal_base.specs.Types.{TypeTable}
use Rattle.causal_base.specs.Event.{IsFit}
use Rattle.causal_base.specs.History.{EventBlock, alone, together, events_of, all_events, IsCausal}
use Rattle.causal_base.specs.Past.{came, event_of, delivery_of, deliveries, delivered, IsLegalPast}
use Rattle.causal_base.proofs.Ids.{event_of-member, event_of-only}
use Rattle.causal_base.proofs.Members.{Contains-cons, Contains-here, Contains-there, Contains-nil, Contains-one}

-- what came is fit
pub came_fit : (types : TypeTable) (past : List Entry) → IsLegalPast types past → (e : Event) → Contains (came past) e → IsFit types e
came_fit types [] h e there = absurd (Contains-nil e there)
came_fit types (Came collector x ∷ past) h e there = elim (Contains-cons x (came past) e there)
    [ inl is ↦ subst (IsFit types) is h.0.fit | inr inside ↦ came_fit types past h.1 e inside ]
came_fit types (Gone a ∷ past) h e there = came_fit types past h.1 e there
came_fit types (Pair a b ∷ past) h e there = came_fit types past h.1 e there
came_fit types (Ended collector ∷ past) h e there = came_fit types past h.1 e there

-- events that came have ids of their own
pub same_came : (types : TypeTable) (past : List Entry) → IsLegalPast types past → (x y : Event) → Contains (came past) x → Contains (came past) y → x.id ≡ y.id → x ≡ y
same_came types [] h x y in_x in_y same = absurd (Contains-nil x in_x)
same_came types (Came collector e ∷ past) h x y in_x in_y same = elim (Contains-cons e (came past) x in_x) [
  | inl first ↦ elim (Contains-cons e (came past) y in_y) [
    | inl second ↦ sym first ∙ second
    | inr inside ↦ absurd (h.0.new (y, inside, sym same ∙ ap (λ (z : Event). z.id) (sym first)))
  ]
  | inr inside_x ↦ elim (Contains-cons e (came past) y in_y) [
    | inl second ↦ absurd (h.0.new (x, inside_x, same ∙ ap (λ (z : Event). z.id) (sym second)))
    | inr inside_y ↦ same_came types past h.1 x y inside_x inside_y same
  ]
]
same_came types (Gone a ∷ past) h x y in_x in_y same = same_came types past h.1 x y in_x in_y same
same_came types (Pair a b ∷ past) h x y in_x in_y same = same_came types past h.1 x y in_x in_y same
same_came types (Ended collector ∷ past) h x y in_x in_y same = same_came types past h.1 x y in_x in_y same

-- an event that came is found by its id
pub event_of-came : (types : TypeTable) (past : List Entry) → IsLegalPast types past → (e : Event) → Contains (came past) e → event_of (came past) e.id ≡ Some e
event_of-came types past h e there = event_of-only (came past) e there (λ x inside same. same_came types past h x e inside there same)

-- a block of one id delivers the event that is found by it
pub delivery_of-one : (events : List Event) (a : EventId) (d : EventBlock) → delivery_of events (One a) ≡ Some d → (e : Event) × (event_of events a ≡ Some e) × (d ≡ alone e)
delivery_of-one events a d h =
    elim (event_of events a) as (λ o. event_of events a ≡ o → option_map alone o ≡ Some d → (e : Event) × (event_of events a ≡ Some e) × (d ≡ alone e)) [
      | None ↦ λ is eq. absurd cc
      | Some e ↦ λ is eq. (e, is, cc)
    ] refl h

-- a block of two ids delivers the two events that are found by them
pub delivery_of-two : (events : List Event) (a b : EventId) (d : EventBlock) → delivery_of events (Two a b) ≡ Some d → (x y : Event) × (event_of events a ≡ Some x) × (event_of events b ≡ Some y) × (d ≡ together x y)
delivery_of-two events a b d h =
    elim (event_of events a) as (λ o. event_of events a ≡ o → option_and_then (λ x. option_map (together x) (event_of events b)) o ≡ Some d → (x y : Event) × (event_of events a ≡ Some x) × (event_of events b ≡ Some y) × (d ≡ together x y)) [
      | None ↦ λ is eq. absurd cc
      | Some x ↦ λ is eq.
          elim (event_of events b) as (λ o. event_of events b ≡ o → option_map (together x) o ≡ Some d → (x y : Event) × (event_of events a ≡ Some x) × (event_of events b ≡ Some y) × (d ≡ together x y)) [
            | None ↦ λ also eq2. absurd cc
            | Some y ↦ λ also eq2. (x, y, is, also, cc)
          ] refl eq
    ] refl h

-- what a block delivers is among the events that it is looked up in
pub delivery_inside : (events : List Event) (block : Block) (d : EventBlock) → delivery_of events block ≡ Some d → (e : Event) → Contains (events_of d) e → Contains events e
delivery_inside events (One a) d h e there =
    let found = delivery_of-one events a d h in
    let is : found.0 ≡ e = Contains-one found.0 e (subst (λ x. Contains (events_of x) e) found.2 there) in
    subst (Contains events) is (event_of-member events a found.0 found.1).0
delivery_inside events (Two a b) d h e there =
    let found = delivery_of-two events a b d h in
    let x = found.0 in
    let y = found.1 in
    elim (Contains-cons y (x ∷ []) e (subst (λ z. Contains (events_of z) e) found.4 there)) [
      | inl is ↦ subst (Contains events) is (event_of-member events b y found.3).0
      | inr rest ↦ subst (Contains events) (Contains-one x e rest) (event_of-member events a x found.2).0
    ]

-- the deliveries after an entry that delivers
pub deliveries-next : (events : List Event) (block : Block) (d : EventBlock) (ds : List EventBlock) → delivery_of events block ≡ Some d → option_to_list (delivery_of events block) ++ ds ≡ d ∷ ds
deliveries-next events block d ds h = ap (λ o. option_to_list o ++ ds) h

-- the deliveries of a legal past are causal
pub causal : (types : TypeTable) (past : List Entry) → IsLegalPast types past → IsCausal types (deliveries past)
causal types [] h = tt
causal types (Came collector e ∷ past) h = causal types past h.1
causal types (Gone a ∷ past) h =
    let enabled = h.0.enabled in
    subst (IsCausal types) (sym (deliveries-next (came past) (One a) enabled.delivery (deliveries past) enabled.came_in)) (enabled.may_follow, causal types past h.1)
causal types (Pair a b ∷ past) h =
    let enabled = h.0.enabled in
    subst (IsCausal types) (sym (deliveries-next (came past) (Two a b) enabled.delivery (deliveries past) enabled.came_in)) (enabled.may_follow, causal types past h.1)
causal types (Ended collector ∷ past) h = causal types past h.1

delivered_inside : (events : List Event) (d : EventBlock) (es : List Event) (e : Event) → ((x : Event) → Contains (events_of d) x → Contains events x) → (Contains es e → Contains events e) → Contains (events_of d ++ es) e → Contains events e
delivered_inside events (alone x) es e of_d of_es there = elim (Contains-cons x es e there)
    [ inl is ↦ of_d e (subst (λ z. Contains (x ∷ []) z) is (Contains-here x [])) | inr rest ↦ of_es rest ]
delivered_inside events (together x y) es e of_d of_es there = elim (Contains-cons y (x ∷ es) e there) [
  | inl is ↦ of_d e (subst (λ z. Contains (y ∷ x ∷ []) z) is (Contains-here y (x ∷ [])))
  | inr more ↦ elim (Contains-cons x es e more) [
    | inl is ↦ of_d e (subst (λ z. Contains (y ∷ x ∷ []) z) is (Contains-there y (x ∷ []) x (Contains-here x [])))
    | inr rest ↦ of_es rest
  ]
]

-- what was delivered came
pub delivered_came : (types : TypeTable) (past : List Entry) → IsLegalPast types past → (e : Event) → Contains (delivered past) e → Contains (came past) e
delivered_came types [] h e there = absurd (Contains-nil e there)
delivered_came types (Came collector x ∷ past) h e there = Contains-there x (came past) e (delivered_came types past h.1 e there)
delivered_came types (Gone a ∷ past) h e there =
    let enabled = h.0.enabled in
    let next = deliveries-next (came past) (One a) enabled.delivery (deliveries past) enabled.came_in in
    delivered_inside (came past) enabled.delivery (delivered past) e (delivery_inside (came past) (One a) enabled.delivery enabled.came_in)
    (delivered_came types past h.1 e) (subst (λ ds. Contains (all_events ds) e) next there)
delivered_came types (Pair a b ∷ past) h e there =
    let enabled = h.0.enabled in
    let next = deliveries-next (came past) (Two a b) enabled.delivery (deliveries past) enabled.came_in in
    delivered_inside (came past) enabled.delivery (delivered past) e (delivery_inside (came past) (Two a b) enabled.delivery enabled.came_in)
    (delivered_came types past h.1 e) (subst (λ ds. Contains (all_events ds) e) next there)
delivered_came types (Ended collector ∷ past) h e there = delivered_came types past h.1 e there
