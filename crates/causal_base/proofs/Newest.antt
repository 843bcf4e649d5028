use Rattle.std.proofs.Common.{◌≡◌, ◌+◌, ◌⊎◌, ◌∙◌, inl, inr, List, [], ◌∷◌, sym, ap, subst, arith}
use Rattle.std.specs.Prelude.{Contains}
use Rattle.causal_base.specs.declared.event.Event.{Event}
use Rattle.causal_base.specs.declared.event_id.EventId.{EventId}
use Rattle.causal_base.specs.declared.kind.Kind.TheVariants.{Unary, Send, Sync}
use Rattle.causal_base.specs.Types.{TypeTable}
use Rattle.causal_base.specs.Event.{IsOfKind, Names, Fits, Pairs}
use Rattle.causal_base.specs.Walks.{Succeeds, Step, Walk, Reaches}
use Rattle.causal_base.specs.History.{EventBlock, alone, together, events_of, all_events, count_on, IsNextOfTrace, IsReady, IsCausal}
use Rattle.causal_base.proofs.Members.{Contains-cons, Contains-here, Contains-there, Contains-nil}
use Rattle.causal_base.proofs.Numbered.{number_within}
use Rattle.causal_base.proofs.Histories.{same_kind, same_name, fits_no, numbered, step_back}
use Rattle.causal_base.proofs.Reaching.{reaches_step, reaches_itself, step_reaches}

-- the events of the newest delivery are among all
pub Contains-newest : (d : EventBlock) (ds : List EventBlock) (x : Event) → Contains (events_of d) x → Contains (all_events (d ∷ ds)) x
Contains-newest (alone e) ds x inside = elim (Contains-cons e [] x inside) [
  | inl is ↦ subst (λ (v : Event). Contains (e ∷ all_events ds) v) is (Contains-here e (all_events ds))
  | inr none ↦ absurd (Contains-nil x none)
]
Contains-newest (together a b) ds x inside = elim (Contains-cons b (a ∷ []) x inside) [
  | inl is ↦ subst (λ (v : Event). Contains (b ∷ a ∷ all_events ds) v) is (Contains-here b (a ∷ all_events ds))
  | inr rest ↦ elim (Contains-cons a [] x rest) [
    | inl is ↦ subst (λ (v : Event). Contains (b ∷ a ∷ all_events ds) v) is (Contains-there b (a ∷ all_events ds) a (Contains-here a (all_events ds)))
    | inr none ↦ absurd (Contains-nil x none)
  ]
]

-- an event is of the newest delivery or older
pub Contains-split : (d : EventBlock) (ds : List EventBlock) (x : Event) → Contains (all_events (d ∷ ds)) x → Contains (events_of d) x ⊎ Contains (all_events ds) x
Contains-split (alone e) ds x inside = elim (Contains-cons e (all_events ds) x inside) [
  | inl is ↦ inl (subst (λ (v : Event). Contains (e ∷ []) v) is (Contains-here e []))
  | inr older ↦ inr older
]
Contains-split (together a b) ds x inside = elim (Contains-cons b (a ∷ all_events ds) x inside) [
  | inl is ↦ inl (subst (λ (v : Event). Contains (b ∷ a ∷ []) v) is (Contains-here b (a ∷ [])))
  | inr rest ↦ elim (Contains-cons a (all_events ds) x rest) [
    | inl is ↦ inl (subst (λ (v : Event). Contains (b ∷ a ∷ []) v) is (Contains-there b (a ∷ []) a (Contains-here a [])))
    | inr older ↦ inr older
  ]
]

-- each event of the newest delivery is the next of its trace
pub newest_is_next : (types : TypeTable) (d : EventBlock) (ds : List EventBlock) → IsCausal types (d ∷ ds) → (x : Event) → Contains (events_of d) x → IsNextOfTrace (all_events ds) x
newest_is_next types (alone e) ds causal x inside = elim (Contains-cons e [] x inside)
    [ inl is ↦ subst (λ (v : Event). IsNextOfTrace (all_events ds) v) is causal.0.0 | inr none ↦ absurd (Contains-nil x none) ]
newest_is_next types (together a b) ds causal x inside = elim (Contains-cons b (a ∷ []) x inside) [
  | inl is ↦ subst (λ (v : Event). IsNextOfTrace (all_events ds) v) is causal.0.1
  | inr rest ↦ elim (Contains-cons a [] x rest)
      [ inl is ↦ subst (λ (v : Event). IsNextOfTrace (all_events ds) v) is causal.0.0 | inr none ↦ absurd (Contains-nil x none) ]
]

-- no older event has the id of an event of the newest delivery
pub newest_is_new : (types : TypeTable) (d : EventBlock) (ds : List EventBlock) → IsCausal types (d ∷ ds) → (x e : Event) → Contains (events_of d) x → Contains (all_events ds) e → x.id ≡ e.id → ⊥
newest_is_new types d ds causal x e newest older same =
    let next = newest_is_next types d ds causal x newest in
    let next_too : e.id.number ≡ count_on e.id.trace (all_events ds) + 1 = subst (λ (i : EventId). i.number ≡ count_on i.trace (all_events ds) + 1) same next in
    let most = (number_within (all_events ds) (numbered types ds causal.1) e older).1 in
    omega (arith, next_too, most)

-- an event that waits for no other trace is no half of a pair
pub ready_no_sync : (types : TypeTable) (events : List Event) (e : Event) → IsReady types events e → IsOfKind types e Sync → ⊥
ready_no_sync types events e ready sync = elim ready [
  | inl unary ↦ let same = same_kind types e Unary Sync unary sync in cc
  | inr rest ↦ elim rest [
    | inl send ↦ let same = same_kind types e Send Sync send sync in cc
    | inr waits ↦ fits_no types e waits.0 Sync waits.2 sync (λ p. cc) (λ p. cc)
  ]
]

pub pairs_swapped : (types : TypeTable) (a b : Event) → Pairs types a b → Pairs types b a
pairs_swapped types a b pairs = record {
  traces = λ same. pairs.traces (sym same);
  forth = pairs.back;
  back = pairs.forth;
  first = pairs.second;
  second = pairs.first;
  mates = record { forth = pairs.mates.back; back = pairs.mates.forth };
}

-- one step before an event, on its own trace or as what it fits
abbrev pub IsSource : TypeTable → Event → Event → Type 0
IsSource types z w = Succeeds z w ⊎ Fits types w z

-- it reaches one of the events, which lies one step before this one
abbrev pub ReachesSource : TypeTable → List Event → Event → Event → Type 0
ReachesSource types events w x = (z : Event) × Contains events z × Reaches types events x z × IsSource types z w

module _ (types : TypeTable) (ds : List EventBlock) where
  -- the events of the newest delivery reach each other
  pub newest_reach : (d : EventBlock) → IsCausal types (d ∷ ds) → (x e : Event) → Contains (events_of d) x → Contains (events_of d) e → Reaches types (all_events (d ∷ ds)) x e
  newest_reach (alone v) causal x e in_x in_e = elim (Contains-cons v [] x in_x) [
    | inr none ↦ absurd (Contains-nil x none)
    | inl is_x ↦ elim (Contains-cons v [] e in_e) [
      | inr none ↦ absurd (Contains-nil e none)
      | inl is_e ↦ subst (λ (u : Event). Reaches types (v ∷ all_events ds) x u) (sym is_x ∙ is_e) (reaches_itself types (v ∷ all_events ds) x (Contains-newest (alone v) ds x in_x))
    ]
  ]
  newest_reach (together a b) causal x e in_x in_e = elim (Contains-cons b (a ∷ []) x in_x) [
    | inl is_x ↦ elim (Contains-cons b (a ∷ []) e in_e) [
      | inl is_e ↦ subst (λ (u : Event). Reaches types events x u) (sym is_x ∙ is_e) (reaches_itself types events x (Contains-newest (together a b) ds x in_x))
      | inr rest ↦ elim (Contains-cons a [] e rest) [
        | inl is_e ↦ subst (λ (u : Event). Reaches types events u e) is_x (subst (λ (u : Event). Reaches types events b u) is_e (step_reaches types events b a back))
        | inr none ↦ absurd (Contains-nil e none)
      ]
    ]
    | inr rest_x ↦ elim (Contains-cons a [] x rest_x) [
      | inr none ↦ absurd (Contains-nil x none)
      | inl is_x ↦ elim (Contains-cons b (a ∷ []) e in_e) [
        | inl is_e ↦ subst (λ (u : Event). Reaches types events u e) is_x (subst (λ (u : Event). Reaches types events a u) is_e (step_reaches types events a b forth))
        | inr rest ↦ elim (Contains-cons a [] e rest) [
          | inl is_e ↦ subst (λ (u : Event). Reaches types events x u) (sym is_x ∙ is_e) (reaches_itself types events x (Contains-newest (together a b) ds x in_x))
          | inr none ↦ absurd (Contains-nil e none)
        ]
      ]
    ]
  ]
    where
      events : List Event
      events = all_events (together a b ∷ ds)

      forth : Step types (all_events (together a b ∷ ds)) a b
      forth = record { from = Contains-there b (a ∷ all_events ds) a (Contains-here a (all_events ds)); to = Contains-here b (a ∷ all_events ds); cause = inr (inr causal.0.2) }

      back : Step types (all_events (together a b ∷ ds)) b a
      back = record { from = Contains-here b (a ∷ all_events ds); to = Contains-there b (a ∷ all_events ds) a (Contains-here a (all_events ds)); cause = inr (inr (pairs_swapped types a b causal.0.2)) }

  -- the partner of an event of the newest delivery is of it too
  pub partner_is_new : (d : EventBlock) → IsCausal types (d ∷ ds) → (x y : Event) → Contains (events_of d) y → Pairs types x y → (v : Event) × Contains (events_of d) v × (v.id ≡ x.id)
  partner_is_new (alone e) causal x y inside pairs = elim (Contains-cons e [] y inside) [
    | inl is ↦ absurd (ready_no_sync types (all_events ds) e causal.0.1 (subst (λ (v : Event). IsOfKind types v Sync) (sym is) pairs.second))
    | inr none ↦ absurd (Contains-nil y none)
  ]
  partner_is_new (together a b) causal x y inside pairs = elim (Contains-cons b (a ∷ []) y inside) [
    | inl is ↦ (a, Contains-there b (a ∷ []) a (Contains-here a []), same_name b a x causal.0.2.back (subst (λ (v : Event). Names v x) (sym is) pairs.back))
    | inr rest ↦ elim (Contains-cons a [] y rest) [
      | inl is ↦ (b, Contains-here b (a ∷ []), same_name a b x causal.0.2.forth (subst (λ (v : Event). Names v x) (sym is) pairs.back))
      | inr none ↦ absurd (Contains-nil y none)
    ]
  ]

  -- a walk from an older event to one of the newest delivery goes by a source of that delivery
  pub goes_by_source : (d : EventBlock) → IsCausal types (d ∷ ds) → (through : List Event) (x e : Event) → Contains (all_events ds) x → Contains (events_of d) e → Walk types (all_events (d ∷ ds)) x through e → (w : Event) × Contains (events_of d) w × ReachesSource types (all_events ds) w x
  goes_by_source d causal [] x e old new walk = absurd (newest_is_new types d ds causal e x new old (ap (λ (v : Event). v.id) (sym walk)))
  goes_by_source d causal (y ∷ through) x e old new walk = elim (Contains-split d ds y walk.0.to) [
    | inr older ↦
        let rest = goes_by_source d causal through y e older new walk.1 in
        let step = step_back types d ds causal x y older walk.0 in
        (rest.0, rest.1, (rest.2.0, rest.2.1, reaches_step types (all_events ds) x y rest.2.0 step rest.2.2, rest.2.3))
    | inl newest ↦ (
      y,
      newest,
      (
        x,
        old,
        reaches_itself types (all_events ds) x old,
        elim walk.0.cause [
          | inl succeeds ↦ inl succeeds
          | inr cause ↦ elim cause [
            | inl fits ↦ inr fits
            | inr pairs ↦ absurd (let v = partner_is_new d causal x y newest pairs in newest_is_new types d ds causal v.0 x v.1 old v.2)
          ]
        ],
      ),
    )
  ]
