-- Worked stamps whole, with their clocks. A clock counts over walks and doesn't compute, so for each stamp a cut is named:
-- what a closed cut leaves out doesn't reach an event of it, and the last event of the cut on each trace reaches the event
-- by the walk that is named.
use Rattle.std.proofs.Common.{◌≡◌, ◌≤◌, ◌+◌, ◌⊎◌, ℕ, List, [], ◌∷◌, inl, inr, refl, sym, ◌∙◌, ap, subst, arith, Option, None, Some, Bool, true, false}
use Rattle.std.specs.Prelude.{Contains, ◌&&◌, ◌||◌, ◌==◌, not, nat_le, slice_index}
use Rattle.std.proofs.lemmas.Bool.{leb-true, le-leb, eqb-true, and_parts, or_cases}
use Rattle.causal_base.specs.declared.event.Event.{Event}
use Rattle.causal_base.specs.declared.event_id.EventId.{EventId}
use Rattle.causal_base.specs.Types.{TypeTable, builtin_types, kind_of, mate_of}
use Rattle.causal_base.specs.Event.{Fits, Pairs}
use Rattle.causal_base.specs.Walks.{Succeeds, Step, Walk, Reaches}
use Rattle.causal_base.specs.Clocks.{IsClock}
use Rattle.causal_base.specs.History.{EventBlock, all_events, IsCausal}
use Rattle.causal_base.specs.Past.{is_same_id, event_of}
use Rattle.causal_base.specs.Stamps.{history_of, IsStamp}
use Rattle.causal_base.proofs.CallerLemmas.{make_id, is_same_id-same, same_from_is_same_id, event_of-member, Contains-cons, Contains-nil, IsNumbered, number_within, numbered, reaches_on, reaches_later, clock_from_limit}
use Rattle.causal_laws.proofs.WorkedStamps.{unary, send, receive, chain, five, own, twice, at_first, at_second, two_and_four}

-- a cut is one count a trace; the id is within it
abbrev is_in : List ℕ → EventId → Bool
is_in cut id = nat_le id.number (slice_index cut id.trace)

abbrev is_named_in : List ℕ → Option EventId → Bool
is_named_in cut None = true
is_named_in cut (Some id) = is_in cut id

-- each event of the cut names an event of it, or none
abbrev is_closed : List ℕ → List Event → Bool
is_closed cut [] = true
is_closed cut (y ∷ ys) = (not (is_in cut y.id) || is_named_in cut y.mate) && is_closed cut ys

closed_at : (cut : List ℕ) (events : List Event) (y : Event) → is_closed cut events ≡ true → Contains events y → is_in cut y.id ≡ true → is_named_in cut y.mate ≡ true
closed_at cut [] y closed inside within = absurd (Contains-nil y inside)
closed_at cut (x ∷ xs) y closed inside within =
    let parts = and_parts (not (is_in cut x.id) || is_named_in cut x.mate) (is_closed cut xs) closed in
    elim (Contains-cons x xs y inside) [
      | inr rest ↦ closed_at cut xs y parts.1 rest within
      | inl is ↦ elim (or_cases (not (is_in cut x.id)) (is_named_in cut x.mate) parts.0) [
        | inr named ↦ subst (λ (v : Event). is_named_in cut v.mate ≡ true) is named
        | inl out ↦ absurd (
            let within_too : is_in cut x.id ≡ true = subst (λ (v : Event). is_in cut v.id ≡ true) (sym is) within in
            let apart : false ≡ true = ap not (sym within_too) ∙ out in
            cc)
      ]
    ]

-- a step into a closed cut begins in it
step_stays : (types : TypeTable) (events : List Event) (cut : List ℕ) → is_closed cut events ≡ true → (x y : Event) → Step types events x y → is_in cut y.id ≡ true → is_in cut x.id ≡ true
step_stays types events cut closed x y step within = elim step.cause [
  | inl succeeds ↦
      let below = leb-true y.id.number (slice_index cut y.id.trace) within in
      let below_too : y.id.number ≤ slice_index cut x.id.trace = subst (λ t. y.id.number ≤ slice_index cut t) succeeds.trace below in
      le-leb x.id.number (slice_index cut x.id.trace) (omega (arith, below_too, succeeds.number))
  | inr cause ↦ elim cause
      [ inl fits ↦ named fits.names | inr pairs ↦ named pairs.back ]
]
  where
    named : y.mate ≡ Some x.id → is_in cut x.id ≡ true
    named is = subst (λ mate. is_named_in cut mate ≡ true) is (closed_at cut events y closed step.to within)

walk_stays : (types : TypeTable) (events : List Event) (cut : List ℕ) → is_closed cut events ≡ true → (through : List Event) (x e : Event) → Walk types events x through e → is_in cut e.id ≡ true → is_in cut x.id ≡ true
walk_stays types events cut closed [] x e walk within = subst (λ (v : Event). is_in cut v.id ≡ true) (sym walk) within
walk_stays types events cut closed (y ∷ through) x e walk within =
    step_stays types events cut closed x y walk.0 (walk_stays types events cut closed through y e walk.1 within)

-- Deliveries of events of the built-in types, and a closed cut of them that has this event.
record ClosedCut (traces : ℕ) (history : List EventBlock) (e : Event) : Type 0 where
  causal : IsCausal (builtin_types traces) history
  counts : List ℕ
  closed : is_closed counts (all_events history) ≡ true
  within : is_in counts e.id ≡ true

abbrev is_named : Option EventId → EventId → Bool
is_named None id = false
is_named (Some mate) id = is_same_id id mate

-- a step to the next event of the trace, or from a send to a receive of it
abbrev is_next : Event → Event → Bool
is_next x y = (y.id.trace == x.id.trace) && (y.id.number == x.id.number + 1)

abbrev is_received : Event → Event → Bool
is_received x y = (x.type_no == 1) && ((y.type_no == 2) && is_named y.mate x.id)

named_is : (mate : Option EventId) (id : EventId) → is_named mate id ≡ true → mate ≡ Some id
named_is None id is = absurd cc
named_is (Some mate) id is = ap Some (sym (same_from_is_same_id id mate is))

fits_received : (traces : ℕ) (x y : Event) → is_received x y ≡ true → Fits (builtin_types traces) y x
fits_received traces x y is =
    let first = and_parts (x.type_no == 1) ((y.type_no == 2) && is_named y.mate x.id) is in
    let second = and_parts (y.type_no == 2) (is_named y.mate x.id) first.1 in
    let sends = eqb-true x.type_no 1 first.0 in
    let receives = eqb-true y.type_no 2 second.0 in
    record {
      names = named_is y.mate x.id second.1;
      kinds = inl (record {
        receives = ap (kind_of (builtin_types traces)) receives;
        sends = ap (kind_of (builtin_types traces)) sends;
        mates = record {
          forth = ap (mate_of (builtin_types traces)) receives ∙ ap Some (sym sends);
          back = ap (mate_of (builtin_types traces)) sends ∙ ap Some (sym receives);
        };
      });
    }

step_cause : (traces : ℕ) (x y : Event) → (is_next x y || is_received x y) ≡ true → Succeeds x y ⊎ (Fits (builtin_types traces) y x ⊎ Pairs (builtin_types traces) x y)
step_cause traces x y is = elim (or_cases (is_next x y) (is_received x y) is) [
  | inl next ↦ (let parts = and_parts (y.id.trace == x.id.trace) (y.id.number == x.id.number + 1) next in inl (record { trace = eqb-true y.id.trace x.id.trace parts.0; number = eqb-true y.id.number (x.id.number + 1) parts.1 }))
  | inr received ↦ inr (inl (fits_received traces x y received))
]

-- These are events of the list from x to e, each a step from the one before it.
abbrev AreSteps : List Event → Event → List Event → Event → Type 0
AreSteps events x [] e = x ≡ e
AreSteps events x (y ∷ through) e = (event_of events y.id ≡ Some y) × ((is_next x y || is_received x y) ≡ true) × AreSteps events y through e

walk_of : (traces : ℕ) (events : List Event) (x : Event) → Contains events x → (through : List Event) (e : Event) → AreSteps events x through e → Walk (builtin_types traces) events x through e
walk_of traces events x inside [] e steps = steps
walk_of traces events x inside (y ∷ through) e steps =
    let there = (event_of-member events y.id y steps.0).0 in
    (record { from = inside; to = there; cause = step_cause traces x y steps.1 }, walk_of traces events y there through e steps.2)

module _ {traces : ℕ} {history : List EventBlock} {e : Event} (cut : ClosedCut traces history e) where
  -- nothing of a trace without events in the cut reaches the event
  none : (trace : ℕ) → slice_index cut.counts trace ≡ 0 → IsClock (builtin_types traces) (all_events history) e trace (slice_index cut.counts trace)
  none trace is = clock_from_limit (builtin_types traces) (all_events history) (numbered (builtin_types traces) history cut.causal) e trace (slice_index cut.counts trace) (record {
    most = omega (arith, is);
    to = λ x inside on few. let least = (number_within (all_events history) (numbered (builtin_types traces) history cut.causal) x inside).0 in absurd (omega (arith, least, few, is));
    from = outside;
  })
    where
      outside : (x : Event) → Contains (all_events history) x → x.id.trace ≡ trace → Reaches (builtin_types traces) (all_events history) x e → x.id.number ≤ slice_index cut.counts trace
      outside x inside on reaches =
          let its = walk_stays (builtin_types traces) (all_events history) cut.counts cut.closed reaches.through x e reaches.walk cut.within in
          subst (λ t. x.id.number ≤ slice_index cut.counts t) on (leb-true x.id.number (slice_index cut.counts x.id.trace) its)

  -- the last event of a trace in the cut reaches the event through these
  by : (last : Event) → event_of (all_events history) last.id ≡ Some last → last.id.number ≡ slice_index cut.counts last.id.trace → (through : List Event) → AreSteps (all_events history) last through e → IsClock (builtin_types traces) (all_events history) e last.id.trace (slice_index cut.counts last.id.trace)
  by last found is through steps = clock_from_limit (builtin_types traces) (all_events history) (numbered (builtin_types traces) history cut.causal) e last.id.trace (slice_index cut.counts last.id.trace) (record {
    most = (let its = (number_within (all_events history) in_turn last inside).1 in omega (arith, its, is));
    to = λ x in_x on few.
        let order : x.id.number ≤ last.id.number = omega (arith, few, is) in
        reaches_on (builtin_types traces) (all_events history) x last e (reaches_later (builtin_types traces) (all_events history) in_turn x last in_x inside on order)
        (record { among = inside; through = through; walk = walk_of traces (all_events history) last inside through e steps });
    from = λ x in_x on reaches.
        let its = walk_stays (builtin_types traces) (all_events history) cut.counts cut.closed reaches.through x e reaches.walk cut.within in
        subst (λ t. x.id.number ≤ slice_index cut.counts t) on (leb-true x.id.number (slice_index cut.counts x.id.trace) its);
  })
    where
      inside : Contains (all_events history) last
      inside = (event_of-member (all_events history) last.id last found).0

      in_turn : IsNumbered (all_events history)
      in_turn = numbered (builtin_types traces) history cut.causal

-- a receive of a send
fits : (traces trace number sender its : ℕ) → Fits (builtin_types traces) (receive trace number (make_id sender its)) (send sender its)
fits traces trace number sender its = fits_received traces (send sender its) (receive trace number (make_id sender its)) (is_same_id-same (make_id sender its))

chain_is_causal : IsCausal (builtin_types 3) chain
chain_is_causal = ((refl, inl refl), ((refl, inr (inr (send 1 2, (0, omega arith, refl), fits 3 2 1 1 2))), ((refl, inr (inl refl)), ((refl, inr (inr (send 0 1, (0, omega arith, refl), fits 3 1 1 0 1))), ((refl, inr (inl refl)), tt)))))

-- an event that is found among deliveries is of them
among : (history : List EventBlock) (e : Event) → event_of (all_events history) e.id ≡ Some e → Contains (all_events history) e
among history e found = (event_of-member (all_events history) e.id e found).0

-- the chain of three traces
chain_0_1 : IsStamp (builtin_types 3) (at_first 3 (2 ∷ [])) chain (send 0 1) (record { level = 1; members = 0 ∷ []; clock = 1 ∷ [] })
chain_0_1 = record { delivered = among chain (send 0 1) refl; level = refl; members = refl; clock = (by cut (send 0 1) refl refl [] refl, tt) }
  where
    cut : ClosedCut 3 (history_of (make_id 0 1) chain) (send 0 1)
    cut = record { causal = chain_is_causal.1.1.1.1; counts = 1 ∷ 0 ∷ 0 ∷ []; closed = refl; within = refl }

chain_1_1 : IsStamp (builtin_types 3) (at_first 3 (2 ∷ [])) chain (receive 1 1 (make_id 0 1)) (record { level = 1; members = 0 ∷ 1 ∷ []; clock = 1 ∷ 1 ∷ [] })
chain_1_1 = record { delivered = among chain (receive 1 1 (make_id 0 1)) refl; level = refl; members = refl; clock = (by cut (send 0 1) refl refl (receive 1 1 (make_id 0 1) ∷ []) (refl, refl, refl), (by cut (receive 1 1 (make_id 0 1)) refl refl [] refl, tt)) }
  where
    cut : ClosedCut 3 (history_of (make_id 1 1) chain) (receive 1 1 (make_id 0 1))
    cut = record { causal = chain_is_causal.1.1.1; counts = 1 ∷ 1 ∷ 0 ∷ []; closed = refl; within = refl }

chain_2_1 : IsStamp (builtin_types 3) (at_first 3 (2 ∷ [])) chain (receive 2 1 (make_id 1 2)) (record { level = 2; members = 0 ∷ 1 ∷ 2 ∷ []; clock = 1 ∷ 2 ∷ 1 ∷ [] })
chain_2_1 = record { delivered = among chain (receive 2 1 (make_id 1 2)) refl; level = refl; members = refl; clock = (by cut (send 0 1) refl refl (receive 1 1 (make_id 0 1) ∷ send 1 2 ∷ receive 2 1 (make_id 1 2) ∷ []) (refl, refl, (refl, refl, (refl, refl, refl))), (by cut (send 1 2) refl refl (receive 2 1 (make_id 1 2) ∷ []) (refl, refl, refl), (by cut (receive 2 1 (make_id 1 2)) refl refl [] refl, tt))) }
  where
    cut : ClosedCut 3 (history_of (make_id 2 1) chain) (receive 2 1 (make_id 1 2))
    cut = record { causal = chain_is_causal.1; counts = 1 ∷ 2 ∷ 1 ∷ []; closed = refl; within = refl }

chain_2_2 : IsStamp (builtin_types 3) (at_first 3 (2 ∷ [])) chain (unary 2 2) (record { level = 1; members = 2 ∷ []; clock = 2 ∷ [] })
chain_2_2 = record { delivered = among chain (unary 2 2) refl; level = refl; members = refl; clock = (by cut (unary 2 2) refl refl [] refl, tt) }
  where
    cut : ClosedCut 3 (history_of (make_id 2 2) chain) (unary 2 2)
    cut = record { causal = chain_is_causal; counts = 1 ∷ 2 ∷ 2 ∷ []; closed = refl; within = refl }

five_is_causal : IsCausal (builtin_types 5) five
five_is_causal = ((refl, inl refl), ((refl, inr (inr (send 0 3, (0, omega arith, refl), fits 5 2 5 0 3))), ((refl, inr (inl refl)), ((refl, inr (inr (send 4 3, (0, omega arith, refl), fits 5 0 2 4 3))), ((refl, inr (inl refl)), ((refl, inl refl), ((refl, inr (inr (send 2 4, (0, omega arith, refl), fits 5 4 1 2 4))), ((refl, inr (inl refl)), ((refl, inl refl), ((refl, inr (inr (send 1 2, (0, omega arith, refl), fits 5 2 2 1 2))), ((refl, inr (inl refl)), ((refl, inr (inr (send 2 1, (0, omega arith, refl), fits 5 3 1 2 1))), ((refl, inr (inl refl)), ((refl, inr (inr (send 0 1, (0, omega arith, refl), fits 5 1 1 0 1))), ((refl, inr (inl refl)), tt)))))))))))))))

-- the five traces, where nothing of trace 3 reaches an event of another trace
five_2_2 : IsStamp (builtin_types 5) two_and_four five (receive 2 2 (make_id 1 2)) (record { level = 2; members = 0 ∷ 1 ∷ 2 ∷ 3 ∷ []; clock = 1 ∷ 2 ∷ 2 ∷ 0 ∷ [] })
five_2_2 = record { delivered = among five (receive 2 2 (make_id 1 2)) refl; level = refl; members = refl; clock = (by cut (send 0 1) refl refl (receive 1 1 (make_id 0 1) ∷ send 1 2 ∷ receive 2 2 (make_id 1 2) ∷ []) (refl, refl, (refl, refl, (refl, refl, refl))), (by cut (send 1 2) refl refl (receive 2 2 (make_id 1 2) ∷ []) (refl, refl, refl), (by cut (receive 2 2 (make_id 1 2)) refl refl [] refl, (none cut 3 refl, tt)))) }
  where
    cut : ClosedCut 5 (history_of (make_id 2 2) five) (receive 2 2 (make_id 1 2))
    cut = record { causal = five_is_causal.1.1.1.1.1.1.1.1.1; counts = 1 ∷ 2 ∷ 2 ∷ 0 ∷ 0 ∷ []; closed = refl; within = refl }

five_4_1 : IsStamp (builtin_types 5) two_and_four five (receive 4 1 (make_id 2 4)) (record { level = 3; members = 0 ∷ 1 ∷ 2 ∷ 3 ∷ 4 ∷ []; clock = 1 ∷ 2 ∷ 4 ∷ 0 ∷ 1 ∷ [] })
five_4_1 = record { delivered = among five (receive 4 1 (make_id 2 4)) refl; level = refl; members = refl; clock = (by cut (send 0 1) refl refl (receive 1 1 (make_id 0 1) ∷ send 1 2 ∷ receive 2 2 (make_id 1 2) ∷ unary 2 3 ∷ send 2 4 ∷ receive 4 1 (make_id 2 4) ∷ []) (refl, refl, (refl, refl, (refl, refl, (refl, refl, (refl, refl, (refl, refl, refl)))))), (by cut (send 1 2) refl refl (receive 2 2 (make_id 1 2) ∷ unary 2 3 ∷ send 2 4 ∷ receive 4 1 (make_id 2 4) ∷ []) (refl, refl, (refl, refl, (refl, refl, (refl, refl, refl)))), (by cut (send 2 4) refl refl (receive 4 1 (make_id 2 4) ∷ []) (refl, refl, refl), (none cut 3 refl, (by cut (receive 4 1 (make_id 2 4)) refl refl [] refl, tt))))) }
  where
    cut : ClosedCut 5 (history_of (make_id 4 1) five) (receive 4 1 (make_id 2 4))
    cut = record { causal = five_is_causal.1.1.1.1.1.1; counts = 1 ∷ 2 ∷ 4 ∷ 0 ∷ 1 ∷ []; closed = refl; within = refl }

five_0_2 : IsStamp (builtin_types 5) two_and_four five (receive 0 2 (make_id 4 3)) (record { level = 3; members = 0 ∷ 1 ∷ 2 ∷ 3 ∷ 4 ∷ []; clock = 2 ∷ 2 ∷ 4 ∷ 0 ∷ 3 ∷ [] })
five_0_2 = record { delivered = among five (receive 0 2 (make_id 4 3)) refl; level = refl; members = refl; clock = (by cut (receive 0 2 (make_id 4 3)) refl refl [] refl, (by cut (send 1 2) refl refl (receive 2 2 (make_id 1 2) ∷ unary 2 3 ∷ send 2 4 ∷ receive 4 1 (make_id 2 4) ∷ unary 4 2 ∷ send 4 3 ∷ receive 0 2 (make_id 4 3) ∷ []) (refl, refl, (refl, refl, (refl, refl, (refl, refl, (refl, refl, (refl, refl, (refl, refl, refl))))))), (by cut (send 2 4) refl refl (receive 4 1 (make_id 2 4) ∷ unary 4 2 ∷ send 4 3 ∷ receive 0 2 (make_id 4 3) ∷ []) (refl, refl, (refl, refl, (refl, refl, (refl, refl, refl)))), (none cut 3 refl, (by cut (send 4 3) refl refl (receive 0 2 (make_id 4 3) ∷ []) (refl, refl, refl), tt))))) }
  where
    cut : ClosedCut 5 (history_of (make_id 0 2) five) (receive 0 2 (make_id 4 3))
    cut = record { causal = five_is_causal.1.1.1; counts = 2 ∷ 2 ∷ 4 ∷ 0 ∷ 3 ∷ []; closed = refl; within = refl }

five_2_5 : IsStamp (builtin_types 5) two_and_four five (receive 2 5 (make_id 0 3)) (record { level = 2; members = 0 ∷ 1 ∷ 2 ∷ 3 ∷ []; clock = 3 ∷ 2 ∷ 5 ∷ 0 ∷ [] })
five_2_5 = record { delivered = among five (receive 2 5 (make_id 0 3)) refl; level = refl; members = refl; clock = (by cut (send 0 3) refl refl (receive 2 5 (make_id 0 3) ∷ []) (refl, refl, refl), (by cut (send 1 2) refl refl (receive 2 2 (make_id 1 2) ∷ unary 2 3 ∷ send 2 4 ∷ receive 2 5 (make_id 0 3) ∷ []) (refl, refl, (refl, refl, (refl, refl, (refl, refl, refl)))), (by cut (receive 2 5 (make_id 0 3)) refl refl [] refl, (none cut 3 refl, tt)))) }
  where
    cut : ClosedCut 5 (history_of (make_id 2 5) five) (receive 2 5 (make_id 0 3))
    cut = record { causal = five_is_causal.1; counts = 3 ∷ 2 ∷ 5 ∷ 0 ∷ 3 ∷ []; closed = refl; within = refl }

five_2_6 : IsStamp (builtin_types 5) two_and_four five (unary 2 6) (record { level = 1; members = 2 ∷ 3 ∷ []; clock = 6 ∷ 0 ∷ [] })
five_2_6 = record { delivered = among five (unary 2 6) refl; level = refl; members = refl; clock = (by cut (unary 2 6) refl refl [] refl, (none cut 3 refl, tt)) }
  where
    cut : ClosedCut 5 (history_of (make_id 2 6) five) (unary 2 6)
    cut = record { causal = five_is_causal; counts = 3 ∷ 2 ∷ 6 ∷ 0 ∷ 3 ∷ []; closed = refl; within = refl }

own_is_causal : IsCausal (builtin_types 3) own
own_is_causal = ((refl, inr (inr (send 1 2, (0, omega arith, refl), fits 3 1 3 1 2))), ((refl, inr (inl refl)), ((refl, inr (inr (send 0 1, (0, omega arith, refl), fits 3 1 1 0 1))), ((refl, inr (inl refl)), tt))))

-- clusters of one trace, and a message of a trace to itself
own_1_1 : IsStamp (builtin_types 3) (at_first 3 (1 ∷ [])) own (receive 1 1 (make_id 0 1)) (record { level = 2; members = 0 ∷ 1 ∷ 2 ∷ []; clock = 1 ∷ 1 ∷ 0 ∷ [] })
own_1_1 = record { delivered = among own (receive 1 1 (make_id 0 1)) refl; level = refl; members = refl; clock = (by cut (send 0 1) refl refl (receive 1 1 (make_id 0 1) ∷ []) (refl, refl, refl), (by cut (receive 1 1 (make_id 0 1)) refl refl [] refl, (none cut 2 refl, tt))) }
  where
    cut : ClosedCut 3 (history_of (make_id 1 1) own) (receive 1 1 (make_id 0 1))
    cut = record { causal = own_is_causal.1.1; counts = 1 ∷ 1 ∷ 0 ∷ []; closed = refl; within = refl }

own_1_3 : IsStamp (builtin_types 3) (at_first 3 (1 ∷ [])) own (receive 1 3 (make_id 1 2)) (record { level = 1; members = 1 ∷ []; clock = 3 ∷ [] })
own_1_3 = record { delivered = among own (receive 1 3 (make_id 1 2)) refl; level = refl; members = refl; clock = (by cut (receive 1 3 (make_id 1 2)) refl refl [] refl, tt) }
  where
    cut : ClosedCut 3 (history_of (make_id 1 3) own) (receive 1 3 (make_id 1 2))
    cut = record { causal = own_is_causal; counts = 1 ∷ 3 ∷ 0 ∷ []; closed = refl; within = refl }

twice_is_causal : IsCausal (builtin_types 3) twice
twice_is_causal = ((refl, inl refl), ((refl, inr (inr (send 0 1, (1, omega arith, refl), fits 3 1 2 0 1))), ((refl, inr (inr (send 0 1, (0, omega arith, refl), fits 3 1 1 0 1))), ((refl, inr (inl refl)), tt))))

-- clusters that merge at the second communication between them
twice_1_1 : IsStamp (builtin_types 3) (at_second 3 (2 ∷ [])) twice (receive 1 1 (make_id 0 1)) (record { level = 2; members = 0 ∷ 1 ∷ 2 ∷ []; clock = 1 ∷ 1 ∷ 0 ∷ [] })
twice_1_1 = record { delivered = among twice (receive 1 1 (make_id 0 1)) refl; level = refl; members = refl; clock = (by cut (send 0 1) refl refl (receive 1 1 (make_id 0 1) ∷ []) (refl, refl, refl), (by cut (receive 1 1 (make_id 0 1)) refl refl [] refl, (none cut 2 refl, tt))) }
  where
    cut : ClosedCut 3 (history_of (make_id 1 1) twice) (receive 1 1 (make_id 0 1))
    cut = record { causal = twice_is_causal.1.1; counts = 1 ∷ 1 ∷ 0 ∷ []; closed = refl; within = refl }

twice_1_2 : IsStamp (builtin_types 3) (at_second 3 (2 ∷ [])) twice (receive 1 2 (make_id 0 1)) (record { level = 1; members = 0 ∷ 1 ∷ []; clock = 1 ∷ 2 ∷ [] })
twice_1_2 = record { delivered = among twice (receive 1 2 (make_id 0 1)) refl; level = refl; members = refl; clock = (by cut (send 0 1) refl refl (receive 1 2 (make_id 0 1) ∷ []) (refl, refl, refl), (by cut (receive 1 2 (make_id 0 1)) refl refl [] refl, tt)) }
  where
    cut : ClosedCut 3 (history_of (make_id 1 2) twice) (receive 1 2 (make_id 0 1))
    cut = record { causal = twice_is_causal.1; counts = 1 ∷ 2 ∷ 0 ∷ []; closed = refl; within = refl }

twice_1_3 : IsStamp (builtin_types 3) (at_second 3 (2 ∷ [])) twice (unary 1 3) (record { level = 1; members = 0 ∷ 1 ∷ []; clock = 1 ∷ 3 ∷ [] })
twice_1_3 = record { delivered = among twice (unary 1 3) refl; level = refl; members = refl; clock = (by cut (send 0 1) refl refl (receive 1 2 (make_id 0 1) ∷ unary 1 3 ∷ []) (refl, refl, (refl, refl, refl)), (by cut (unary 1 3) refl refl [] refl, tt)) }
  where
    cut : ClosedCut 3 (history_of (make_id 1 3) twice) (unary 1 3)
    cut = record { causal = twice_is_causal; counts = 1 ∷ 3 ∷ 0 ∷ []; closed = refl; within = refl }
