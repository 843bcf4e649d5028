-- Where places lie once one more is in order.
use Rattle.std.proofs.Common.{◌≡◌, ◌≢◌, ◌<◌, ◌≤◌, ◌+◌, ◌⊎◌, ℕ, suc, zero, List, [], ◌∷◌, ◌++◌, length, length-append, map, set, refl, sym, ◌∙◌, ap, subst, arith, inl, inr, None, Some, Option}
use Rattle.std.specs.Prelude.{slice_get, option_and_then}
use Rattle.std.specs.Option.{option_map, option_or}
use Rattle.std.proofs.lemmas.Bool.{cases_eq, cases_lt}
use Rattle.std.proofs.lemmas.Option.{slice_get-map}
use Rattle.causal_base.specs.declared.event_id.EventId.{EventId}
use Rattle.causal_base.proofs.CallerLemmas.{same_id}
use Rattle.shared_list.specs.Shared.{Shared, unspared}
use Rattle.shared_list.proofs.CallerLemmas.{slice_get-push_before, slice_get-push_last}
use Rattle.trace_queue.specs.Held.{HeldValues, held_at}
use Rattle.journal.specs.Places.{at_number, place_in_order, place_of}

-- an id is this one or another
pub same_or_other : (other id : EventId) → (other ≡ id) ⊎ (other ≢ id)
same_or_other other id = elim (cases_eq other.trace id.trace) [
  | inr apart ↦ inr (λ is. apart (ap (λ (i : EventId). i.trace) is))
  | inl trace ↦ elim (cases_eq other.number id.number) [
    | inl number ↦ inl (same_id other id trace number)
    | inr apart ↦ inr (λ is. apart (ap (λ (i : EventId). i.number) is))
  ]
]

slice_get-set_same : {A : Type 0} (xs : List A) (k : ℕ) (x : A) → k < length xs → slice_get (set xs k x) k ≡ Some x
slice_get-set_same [] k x h = absurd (omega arith)
slice_get-set_same (y ∷ ys) zero x h = refl
slice_get-set_same (y ∷ ys) (suc k) x h = slice_get-set_same ys k x (omega arith)

slice_get-set_other : {A : Type 0} (xs : List A) (k j : ℕ) (x : A) → j ≢ k → slice_get (set xs k x) j ≡ slice_get xs j
slice_get-set_other [] k j x ne = refl
slice_get-set_other (y ∷ ys) zero zero x ne = absurd (ne refl)
slice_get-set_other (y ∷ ys) zero (suc j) x ne = refl
slice_get-set_other (y ∷ ys) (suc k) zero x ne = refl
slice_get-set_other (y ∷ ys) (suc k) (suc j) x ne = slice_get-set_other ys k j x (λ is. ne (ap suc is))

slice_get-past : {A : Type 0} (xs : List A) (k : ℕ) → length xs ≤ k → slice_get xs k ≡ None
slice_get-past [] k h = refl
slice_get-past (y ∷ ys) zero h = absurd (omega arith)
slice_get-past (y ∷ ys) (suc k) h = slice_get-past ys k (omega arith)

module _ (in_order : List (Shared ℕ)) (id : EventId) (old new : Shared ℕ) (place : ℕ) (inside : id.trace < length in_order) (was : slice_get in_order id.trace ≡ Some old) (items : new.items ≡ old.items ++ place ∷ []) (number : id.number ≡ length old.items + 1) where
  next : id.number ≡ suc (length old.items)
  next = omega (arith, number)

  abbrev after : List (Shared ℕ)
  after = set in_order id.trace new

  -- the id had no place in the order
  pub none_before : place_in_order in_order id ≡ None
  none_before =
      ap (option_and_then (λ (list : Shared ℕ). at_number list.items id.number)) was
      ∙ (ap (at_number old.items) next ∙ slice_get-past old.items (length old.items) (omega arith))

  -- and has this one
  pub some_after : place_in_order after id ≡ Some place
  some_after =
      ap (option_and_then (λ (list : Shared ℕ). at_number list.items id.number)) (slice_get-set_same in_order id.trace new inside)
      ∙ (ap (at_number new.items) next ∙ (ap (λ xs. slice_get xs (length old.items)) items ∙ slice_get-push_last old.items place))

  same_number : (n : ℕ) → n ≢ id.number → at_number new.items n ≡ at_number old.items n
  same_number zero ne = refl
  same_number (suc before) ne = ap (λ xs. slice_get xs before) items ∙ elim (cases_lt before (length old.items)) [
    | inl low ↦ slice_get-push_before old.items place before low
    | inr high ↦
        let apart : length old.items < before = omega (arith, high, number, ne) in
        slice_get-past (old.items ++ place ∷ []) before (let long = length-append old.items (place ∷ []) in omega (arith, long, apart)) ∙ sym (slice_get-past old.items before high)
  ]

  -- every other id has the place in the order that it had
  pub same_others : (other : EventId) → other ≢ id → place_in_order after other ≡ place_in_order in_order other
  same_others other ne = elim (cases_eq other.trace id.trace) [
    | inr apart ↦ ap (option_and_then (λ (list : Shared ℕ). at_number list.items other.number)) (slice_get-set_other in_order id.trace other.trace new apart)
    | inl same ↦
        ap (λ t. option_and_then (λ (list : Shared ℕ). at_number list.items other.number) (slice_get after t)) same
        ∙ (ap (option_and_then (λ (list : Shared ℕ). at_number list.items other.number)) (slice_get-set_same in_order id.trace new inside)
        ∙ (same_number other.number (λ is. ne (same_id other id same is))
        ∙ sym (ap (λ t. option_and_then (λ (list : Shared ℕ). at_number list.items other.number) (slice_get in_order t)) same
        ∙ ap (option_and_then (λ (list : Shared ℕ). at_number list.items other.number)) was)))
  ]

  -- A place that was held and is in order now is the same place, and nothing else has changed.
  pub moved : (before later : HeldValues ℕ) → held_at before id ≡ Some place → ((other : EventId) → other ≢ id → held_at later other ≡ held_at before other)
      → (other : EventId) → place_of (record { in_order = after; early = later }) other ≡ place_of (record { in_order = in_order; early = before }) other
  moved before later held kept other = elim (same_or_other other id) [
    | inl same ↦ subst (λ (i : EventId). place_of (record { in_order = after; early = later }) i ≡ place_of (record { in_order = in_order; early = before }) i) (sym same)
        (ap (λ o. option_or o (held_at later id)) some_after ∙ sym (ap (λ o. option_or o (held_at before id)) none_before ∙ held))
    | inr apart ↦ ap (λ o. option_or o (held_at later other)) (same_others other apart) ∙ ap (option_or (place_in_order in_order other)) (kept other apart)
  ]

-- an empty list at the end changes no place
pub same_with_empty : (in_order : List (Shared ℕ)) (empty : Shared ℕ) → empty.items ≡ [] → (id : EventId) → place_in_order (in_order ++ empty ∷ []) id ≡ place_in_order in_order id
same_with_empty in_order empty none id = at in_order id.trace
  where
    nothing : (n : ℕ) → at_number empty.items n ≡ None
    nothing zero = refl
    nothing (suc before) = ap (λ xs. slice_get xs before) none

    at : (lists : List (Shared ℕ)) (trace : ℕ) → option_and_then (λ (list : Shared ℕ). at_number list.items id.number) (slice_get (lists ++ empty ∷ []) trace) ≡ option_and_then (λ (list : Shared ℕ). at_number list.items id.number) (slice_get lists trace)
    at [] zero = nothing id.number
    at [] (suc trace) = refl
    at (list ∷ lists) zero = refl
    at (list ∷ lists) (suc trace) = at lists trace

-- nor does a share of each list
pub same_unspared : (in_order : List (Shared ℕ)) (id : EventId) → place_in_order (map unspared in_order) id ≡ place_in_order in_order id
same_unspared in_order id = ap (option_and_then (λ (list : Shared ℕ). at_number list.items id.number)) (slice_get-map unspared in_order id.trace) ∙ at (slice_get in_order id.trace)
  where
    at : (o : Option (Shared ℕ)) → option_and_then (λ (list : Shared ℕ). at_number list.items id.number) (option_map unspared o) ≡ option_and_then (λ (list : Shared ℕ). at_number list.items id.number) o
    at None = refl
    at (Some list) = refl
