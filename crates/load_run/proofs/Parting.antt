-- The shares of a list have each of its events once.
use Rattle.std.proofs.Common.{◌≡◌, ◌≢◌, ℕ, zero, suc, ◌+◌, ◌≤◌, ◌%◌, Bool, true, false, cond, inl, inr, List, [], ◌∷◌, ◌++◌, length, refl, sym, ◌∙◌, ap, subst, arith, eq-eqb}
use Rattle.std.specs.Prelude.{◌↔◌, ◌==◌, All, AllPairs, Contains, count_by, filter, flat_map, slice_index_or}
use Rattle.std.proofs.lemmas.Bool.{eqb-true, false_from_ne_true}
use Rattle.std.proofs.lemmas.List.{length-append}
use Rattle.std.proofs.lemmas.List.Elements.{All-append, Contains-append_cases, Contains-append_left, Contains-append_right}
use Rattle.std.proofs.lemmas.List.Kept.{AllPairs-cons, AllPairs-filter}
use Rattle.std.proofs.lemmas.List.Sums.{length-filter}
use Rattle.causal_base.specs.declared.event.Event.{Event}
use Rattle.causal_base.specs.declared.event_id.EventId.{EventId}
use Rattle.causal_base.proofs.CallerLemmas.{All-from_members, Contains-cons, Contains-here, Contains-nil, Contains-there, count_by-cons}
use Rattle.load_run.specs.declared.limits.TheConstants.{COLLECTORS}
use Rattle.load_run.specs.LoadTexts.{share, shares}

-- all events of lists, one list after another
abbrev pub all_of : List (List Event) → List Event
all_of lists = flat_map (λ events. events) lists

-- the collector has this event
abbrev pub is_in_share : ℕ → Event → Bool
is_in_share collector e = e.id.trace % COLLECTORS == collector

-- what a filter keeps was there, and passes
kept : (p : Event → Bool) (xs : List Event) (x : Event) → Contains (filter p xs) x → Contains xs x × (p x ≡ true)
kept p [] x inside = absurd (Contains-nil x inside)
kept p (y ∷ ys) x inside = elim (p y) as (λ b. p y ≡ b → Contains (cond b (y ∷ filter p ys) (filter p ys)) x → Contains (y ∷ ys) x × (p x ≡ true)) [
  | true ↦ λ passes there. elim (Contains-cons y (filter p ys) x there) [
    | inl is ↦ (subst (Contains (y ∷ ys)) is (Contains-here y ys), subst (λ z. p z ≡ true) is passes)
    | inr rest ↦ let found = kept p ys x rest in (Contains-there y ys x found.0, found.1)
  ]
  | false ↦ λ fails there. let found = kept p ys x there in (Contains-there y ys x found.0, found.1)
] refl inside

-- a filter keeps what passes
keeps : (p : Event → Bool) (xs : List Event) (x : Event) → Contains xs x → p x ≡ true → Contains (filter p xs) x
keeps p [] x inside passes = absurd (Contains-nil x inside)
keeps p (y ∷ ys) x inside passes = elim (p y) as (λ b. p y ≡ b → Contains (cond b (y ∷ filter p ys) (filter p ys)) x) [
  | true ↦ λ is. elim (Contains-cons y ys x inside) [
    | inl same ↦ subst (Contains (y ∷ filter p ys)) same (Contains-here y (filter p ys))
    | inr rest ↦ Contains-there y (filter p ys) x (keeps p ys x rest passes)
  ]
  | false ↦ λ is. elim (Contains-cons y ys x inside) [
    | inl same ↦ let wrong : p x ≡ false = subst (λ z. p z ≡ false) same is in absurd cc
    | inr rest ↦ keeps p ys x rest passes
  ]
] refl

-- the rest of a list of which all pairs are related
AllPairs-rest : {X : Type 0} (R : X → X → Type 0) (x : X) (xs : List X) → AllPairs R (x ∷ xs) → AllPairs R xs
AllPairs-rest R x xs pairs = λ i j d low within. pairs (suc i) (suc j) d (omega (arith, low)) (omega (arith, within))

-- two such lists, of which the first is related to the second
AllPairs-append : {X : Type 0} (R : X → X → Type 0) (xs ys : List X) → AllPairs R xs → AllPairs R ys → All (λ x. All (R x) ys) xs → AllPairs R (xs ++ ys)
AllPairs-append R [] ys first second across = second
AllPairs-append R (x ∷ xs) ys first second across =
    AllPairs-cons R x (xs ++ ys)
    (All-append (R x) xs ys (λ i d within. first 0 (suc i) d (omega arith) (omega (arith, within))) (across 0 x (omega arith)))
    (AllPairs-append R xs ys (AllPairs-rest R x xs first) second (λ i d within. across (suc i) d (omega (arith, within))))

-- events with ids of their own
abbrev pub ids_differ : Event → Event → Type 0
ids_differ a b = a.id ≢ b.id

-- an empty list has all properties
All-none : (P : Event → Type 0) → All P []
All-none P = λ k d within. absurd (omega (arith, within))

AllPairs-none : (R : Event → Event → Type 0) → AllPairs R []
AllPairs-none R = λ i j d low within. absurd (omega (arith, within))

-- a number that isn't another doesn't count as it
other_counts_not : (r k : ℕ) → r ≢ k → ◌≡◌ {A = ℕ} (cond (r == k) 1 0) 0
other_counts_not r k other = ap (λ (b : Bool). cond b 1 0) (false_from_ne_true (r == k) (λ same. other (eqb-true r k same)))

-- a number is one of the three at most
one_of_three : (r : ℕ) → cond (r == 0) 1 0 + (cond (r == 1) 1 0 + cond (r == 2) 1 0) ≤ 1
one_of_three zero = omega arith
one_of_three (suc zero) = omega arith
one_of_three (suc (suc zero)) = omega arith
one_of_three (suc (suc (suc r))) =
    let first = other_counts_not (suc (suc (suc r))) 0 (omega arith) in
    let second = other_counts_not (suc (suc (suc r))) 1 (omega arith) in
    let third = other_counts_not (suc (suc (suc r))) 2 (omega arith) in
    omega (arith, first, second, third)

-- no event is in two shares
counted_once : (events : List Event) → count_by (is_in_share 0) events + (count_by (is_in_share 1) events + count_by (is_in_share 2) events) ≤ length events
counted_once [] = omega arith
counted_once (e ∷ events) =
    let first = count_by-cons (is_in_share 0) e events in
    let second = count_by-cons (is_in_share 1) e events in
    let third = count_by-cons (is_in_share 2) e events in
    let rest = counted_once events in
    omega (arith, first, second, third, rest, one_of_three (e.id.trace % COLLECTORS))

module _ (events : List Event) where
  -- an event is in the share of its trace
  in_share : (e : Event) → Contains events e → (collector : ℕ) → e.id.trace % COLLECTORS ≡ collector → Contains (share events collector) e
  in_share e inside collector is = keeps (is_in_share collector) events e inside (eq-eqb (e.id.trace % COLLECTORS) collector is)

  -- which is that of one of the collectors
  in_some_share : (e : Event) → Contains events e → (collector : ℕ) → e.id.trace % COLLECTORS ≡ collector → Contains (all_of (shares events)) e
  in_some_share e inside zero is = Contains-append_left (share events 0) (share events 1 ++ (share events 2 ++ [])) e (in_share e inside 0 is)
  in_some_share e inside (suc zero) is = Contains-append_right (share events 0) (share events 1 ++ (share events 2 ++ [])) e
      (Contains-append_left (share events 1) (share events 2 ++ []) e (in_share e inside 1 is))
  in_some_share e inside (suc (suc zero)) is = Contains-append_right (share events 0) (share events 1 ++ (share events 2 ++ [])) e
      (Contains-append_right (share events 1) (share events 2 ++ []) e (Contains-append_left (share events 2) [] e (in_share e inside 2 is)))
  in_some_share e inside (suc (suc (suc k))) is = absurd (omega (arith, is))

  -- an event of the shares is one of the list
  in_list : (e : Event) → Contains (all_of (shares events)) e → Contains events e
  in_list e inside = elim (Contains-append_cases (share events 0) (share events 1 ++ (share events 2 ++ [])) e inside) [
    | inl first ↦ (kept (is_in_share 0) events e first).0
    | inr later ↦ elim (Contains-append_cases (share events 1) (share events 2 ++ []) e later) [
      | inl second ↦ (kept (is_in_share 1) events e second).0
      | inr last ↦ elim (Contains-append_cases (share events 2) [] e last) [
        | inl third ↦ (kept (is_in_share 2) events e third).0
        | inr none ↦ absurd (Contains-nil e none)
      ]
    ]
  ]

  -- the shares have the events of the list
  pub same_events : (e : Event) → Contains (all_of (shares events)) e ↔ Contains events e
  same_events e = (in_list e, λ inside. in_some_share e inside (e.id.trace % COLLECTORS) refl)

  -- and no more of them
  pub no_more_events : length (all_of (shares events)) ≤ length events
  no_more_events =
      let first = length-append (share events 0) (share events 1 ++ (share events 2 ++ [])) in
      let second = length-append (share events 1) (share events 2 ++ []) in
      let third = length-append (share events 2) [] in
      omega (arith, first, second, third, length-filter (is_in_share 0) events, length-filter (is_in_share 1) events, length-filter (is_in_share 2) events, counted_once events)

  -- events of two collectors have ids of their own
  shares_differ : (first second : ℕ) → first ≢ second → All (λ x. All (ids_differ x) (share events second)) (share events first)
  shares_differ first second other =
      All-from_members (λ x. All (ids_differ x) (share events second)) (share events first) (λ x in_first.
      All-from_members (ids_differ x) (share events second) (λ y in_second same.
      let one = eqb-true (x.id.trace % COLLECTORS) first (kept (is_in_share first) events x in_first).1 in
      let two = eqb-true (y.id.trace % COLLECTORS) second (kept (is_in_share second) events y in_second).1 in
      other (sym one ∙ (ap (λ (id : EventId). id.trace % COLLECTORS) same ∙ two))))

  -- so have those of a collector and of all later ones, where those of the list have
  module _ (differ : AllPairs ids_differ events) where
    share_differs : (collector : ℕ) → AllPairs ids_differ (share events collector)
    share_differs collector = AllPairs-filter ids_differ (is_in_share collector) events differ

    last_differ : AllPairs ids_differ (share events 2 ++ [])
    last_differ = AllPairs-append ids_differ (share events 2) [] (share_differs 2) (AllPairs-none ids_differ) (λ k d within. All-none (ids_differ (slice_index_or (share events 2) k d)))

    later_differ : AllPairs ids_differ (share events 1 ++ (share events 2 ++ []))
    later_differ = AllPairs-append ids_differ (share events 1) (share events 2 ++ []) (share_differs 1) last_differ
        (λ k d within. let x = slice_index_or (share events 1) k d in
        All-append (ids_differ x) (share events 2) [] (shares_differ 1 2 (omega arith) k d within) (All-none (ids_differ x)))

    pub own_ids : AllPairs ids_differ (all_of (shares events))
    own_ids = AllPairs-append ids_differ (share events 0) (share events 1 ++ (share events 2 ++ [])) (share_differs 0) later_differ
        (λ k d within. let x = slice_index_or (share events 0) k d in
        All-append (ids_differ x) (share events 1) (share events 2 ++ []) (shares_differ 0 1 (omega arith) k d within)
        (All-append (ids_differ x) (share events 2) [] (shares_differ 0 2 (omega arith) k d within) (All-none (ids_differ x))))
