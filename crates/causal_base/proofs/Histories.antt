use Rattle.std.proofs.Common.{◌≡◌, ◌≢◌, ◌≤◌, ◌+◌, ◌⊎◌, inl, inr, List, [], ◌∷◌, ◌++◌, sym, ◌∙◌, ap, subst, arith, Some}
use Rattle.std.specs.Prelude.{Contains}
use Rattle.causal_base.specs.declared.event.Event.{Event}
use Rattle.causal_base.specs.declared.event_id.EventId.{EventId}
use Rattle.causal_base.specs.declared.kind.Kind.{Kind}
use Rattle.causal_base.specs.declared.kind.Kind.TheVariants.{Unary, Send, Receive, Sync, Watch}
use Rattle.causal_base.specs.Types.{TypeTable}
use Rattle.causal_base.specs.Event.{IsOfKind, Names, Fits, Pairs}
use Rattle.causal_base.specs.Walks.{Succeeds, Step, Walk, Reaches}
use Rattle.causal_base.specs.Past.{HasEvent}
use Rattle.causal_base.specs.History.{EventBlock, alone, together, events_of, all_events, count_on, IsNextOfTrace, IsCausal}
use Rattle.causal_base.proofs.Ids.{same_id}
use Rattle.causal_base.proofs.Members.{Contains-cons, Contains-here, Contains-there, Contains-nil}
use Rattle.causal_base.proofs.Numbered.{IsNumbered, count_on-other, number_within, event_at, same_event}

-- an event does one thing
pub same_kind : (types : TypeTable) (e : Event) (a b : Kind) → IsOfKind types e a → IsOfKind types e b → a ≡ b
same_kind types e a b is_a is_b = let same : Some a ≡ Some b = sym is_a ∙ is_b in cc

-- an event names one event
pub same_name : (e x y : Event) → Names e x → Names e y → x.id ≡ y.id
same_name e x y names_x names_y = let same : Some x.id ≡ Some y.id = sym names_x ∙ names_y in cc

-- what fits is a receive or a watch
fits_kind : (types : TypeTable) (later earlier : Event) (kind : Kind) → Fits types later earlier → IsOfKind types later kind → (kind ≡ Receive) ⊎ (kind ≡ Watch)
fits_kind types later earlier kind fits is = elim fits.kinds [
  | inl delivers ↦ inl (same_kind types later kind Receive is delivers.receives)
  | inr watches ↦ inr (same_kind types later kind Watch is watches)
]

pub fits_no : (types : TypeTable) (later earlier : Event) (kind : Kind) → Fits types later earlier → IsOfKind types later kind → kind ≢ Receive → kind ≢ Watch → ⊥
fits_no types later earlier kind fits is not_receive not_watch = elim (fits_kind types later earlier kind fits is) [ inl e ↦ not_receive e | inr e ↦ not_watch e ]

-- the events of causal deliveries are numbered
pub numbered : (types : TypeTable) (ds : List EventBlock) → IsCausal types ds → IsNumbered (all_events ds)
numbered types [] h = tt
numbered types (alone e ∷ ds) h = (h.0.0, numbered types ds h.1)
numbered types (together a b ∷ ds) h =
    let other : a.id.trace ≢ b.id.trace = h.0.2.traces in
    let same = count_on-other b.id.trace a (all_events ds) other in
    (h.0.1 ∙ ap (λ n. n + 1) (sym same), (h.0.0, numbered types ds h.1))

has_event-there : (x : Event) (es : List Event) (id : EventId) → HasEvent es id → HasEvent (x ∷ es) id
has_event-there x es id h = (h.0, Contains-there x es h.0 h.1, h.2)

-- the event before the next of its trace is there
predecessor_inside : (es : List Event) → IsNumbered es → (u v : Event) → 1 ≤ u.id.number → IsNextOfTrace es v → Succeeds u v → HasEvent es u.id
predecessor_inside es h u v least next succeeds =
    let number : u.id.number ≡ count_on v.id.trace es = omega (arith, next, succeeds.number) in
    let e = event_at es h v.id.trace u.id.number least (omega arith) in
    (e.0, e.1, same_id e.0.id u.id (e.2 ∙ succeeds.trace) e.3)

-- one step before an event of causal deliveries lies another of their events
pub cause_inside : (types : TypeTable) (ds : List EventBlock) → IsCausal types ds → (v : Event) → Contains (all_events ds) v → (u : Event) → 1 ≤ u.id.number → Succeeds u v ⊎ (Fits types v u ⊎ Pairs types u v) → HasEvent (all_events ds) u.id
cause_inside types [] h v there u least cause = absurd (Contains-nil v there)
cause_inside types (alone e ∷ ds) h v there u least cause = elim (Contains-cons e (all_events ds) v there) [
  | inl is ↦ has_event-there e (all_events ds) u.id (first (subst (λ (x : Event). Succeeds u x ⊎ (Fits types x u ⊎ Pairs types u x)) (sym is) cause))
  | inr inside ↦ has_event-there e (all_events ds) u.id (cause_inside types ds h.1 v inside u least cause)
]
  where
    first : Succeeds u e ⊎ (Fits types e u ⊎ Pairs types u e) → HasEvent (all_events ds) u.id
    first c = elim c [
      | inl succeeds ↦ predecessor_inside (all_events ds) (numbered types ds h.1) u e least h.0.0 succeeds
      | inr other ↦ elim h.0.1 [
        | inl unary ↦ absurd (elim other [
          | inl fits ↦ fits_no types e u Unary fits unary (λ p. cc) (λ p. cc)
          | inr pairs ↦ let same = same_kind types e Unary Sync unary pairs.second in cc
        ])
        | inr rest ↦ elim rest [
          | inl send ↦ absurd (elim other [
            | inl fits ↦ fits_no types e u Send fits send (λ p. cc) (λ p. cc)
            | inr pairs ↦ let same = same_kind types e Send Sync send pairs.second in cc
          ])
          | inr ready ↦ elim other [
            | inl fits ↦ (ready.0, ready.1, same_name e ready.0 u ready.2.names fits.names)
            | inr pairs ↦ absurd (fits_no types e ready.0 Sync ready.2 pairs.second (λ p. cc) (λ p. cc))
          ]
        ]
      ]
    ]
cause_inside types (together a b ∷ ds) h v there u least cause = elim (Contains-cons b (a ∷ all_events ds) v there) [
  | inl is ↦ second (subst (λ (x : Event). Succeeds u x ⊎ (Fits types x u ⊎ Pairs types u x)) (sym is) cause)
  | inr there_too ↦ elim (Contains-cons a (all_events ds) v there_too) [
    | inl is ↦ first (subst (λ (x : Event). Succeeds u x ⊎ (Fits types x u ⊎ Pairs types u x)) (sym is) cause)
    | inr inside ↦ lift (cause_inside types ds h.1 v inside u least cause)
  ]
]
  where
    lift : HasEvent (all_events ds) u.id → HasEvent (b ∷ a ∷ all_events ds) u.id
    lift it = has_event-there b (a ∷ all_events ds) u.id (has_event-there a (all_events ds) u.id it)

    first : Succeeds u a ⊎ (Fits types a u ⊎ Pairs types u a) → HasEvent (b ∷ a ∷ all_events ds) u.id
    first c = elim c [
      | inl succeeds ↦ lift (predecessor_inside (all_events ds) (numbered types ds h.1) u a least h.0.0 succeeds)
      | inr other ↦ elim other [
        | inl fits ↦ absurd (fits_no types a u Sync fits h.0.2.first (λ p. cc) (λ p. cc))
        | inr pairs ↦ (b, Contains-here b (a ∷ all_events ds), same_name a b u h.0.2.forth pairs.back)
      ]
    ]

    second : Succeeds u b ⊎ (Fits types b u ⊎ Pairs types u b) → HasEvent (b ∷ a ∷ all_events ds) u.id
    second c = elim c [
      | inl succeeds ↦ lift (predecessor_inside (all_events ds) (numbered types ds h.1) u b least h.0.1 succeeds)
      | inr other ↦ elim other [
        | inl fits ↦ absurd (fits_no types b u Sync fits h.0.2.second (λ p. cc) (λ p. cc))
        | inr pairs ↦ (a, Contains-there b (a ∷ all_events ds) a (Contains-here a (all_events ds)), same_name b a u h.0.2.back pairs.back)
      ]
    ]

-- an event stays among the events when a delivery is added
pub Contains-there_events : (d : EventBlock) (es : List Event) (x : Event) → Contains es x → Contains (events_of d ++ es) x
Contains-there_events (alone e) es x h = Contains-there e es x h
Contains-there_events (together a b) es x h = Contains-there b (a ∷ es) x (Contains-there a es x h)

-- a step into an earlier event begins at an earlier event
pub step_back : (types : TypeTable) (d : EventBlock) (ds : List EventBlock) → IsCausal types (d ∷ ds) → (u v : Event) → Contains (all_events ds) v → Step types (all_events (d ∷ ds)) u v → Step types (all_events ds) u v
step_back types d ds h u v inside step =
    let all_numbered = numbered types (d ∷ ds) h in
    let least = (number_within (all_events (d ∷ ds)) all_numbered u step.from).0 in
    let found = cause_inside types ds h.1 v inside u least step.cause in
    let same = same_event (all_events (d ∷ ds)) all_numbered found.0 u (Contains-there_events d (all_events ds) found.0 found.1) step.from found.2 in
    record { from = subst (λ (x : Event). Contains (all_events ds) x) same found.1; to = inside; cause = step.cause }

-- a walk to an earlier event goes through earlier events alone
pub walk_back : (types : TypeTable) (d : EventBlock) (ds : List EventBlock) → IsCausal types (d ∷ ds) → (through : List Event) (u v : Event) → Contains (all_events ds) v → Walk types (all_events (d ∷ ds)) u through v → Contains (all_events ds) u × Walk types (all_events ds) u through v
walk_back types d ds h [] u v inside walk = (subst (λ (x : Event). Contains (all_events ds) x) (sym walk) inside, walk)
walk_back types d ds h (w ∷ ws) u v inside walk =
    let rest = walk_back types d ds h ws w v inside walk.1 in
    let step = step_back types d ds h u w rest.0 walk.0 in
    (step.from, (step, rest.1))

-- more events leave a walk a walk
pub step_grows : (types : TypeTable) (d : EventBlock) (ds : List EventBlock) (u v : Event) → Step types (all_events ds) u v → Step types (all_events (d ∷ ds)) u v
step_grows types d ds u v step = record {
  from = Contains-there_events d (all_events ds) u step.from;
  to = Contains-there_events d (all_events ds) v step.to;
  cause = step.cause;
}

pub walk_grows : (types : TypeTable) (d : EventBlock) (ds : List EventBlock) (through : List Event) (u v : Event) → Walk types (all_events ds) u through v → Walk types (all_events (d ∷ ds)) u through v
walk_grows types d ds [] u v walk = walk
walk_grows types d ds (w ∷ ws) u v walk = (step_grows types d ds u w walk.0, walk_grows types d ds ws w v walk.1)

-- an earlier event is reached by the same events as before
pub reaches_back : (types : TypeTable) (d : EventBlock) (ds : List EventBlock) → IsCausal types (d ∷ ds) → (u v : Event) → Contains (all_events ds) v → Reaches types (all_events (d ∷ ds)) u v → Reaches types (all_events ds) u v
reaches_back types d ds h u v inside reaches =
    let back = walk_back types d ds h reaches.through u v inside reaches.walk in
    record { among = back.0; through = reaches.through; walk = back.1 }

pub reaches_grows : (types : TypeTable) (d : EventBlock) (ds : List EventBlock) (u v : Event) → Reaches types (all_events ds) u v → Reaches types (all_events (d ∷ ds)) u v
reaches_grows types d ds u v reaches = record {
  among = Contains-there_events d (all_events ds) u reaches.among;
  through = reaches.through;
  walk = walk_grows types d ds reaches.through u v reaches.walk;
}
