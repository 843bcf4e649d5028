-- What is held once the values of one trace are others.
use Rattle.std.proofs.Common.{◌≡◌, ◌≢◌, ◌<◌, ◌+◌, ℕ, suc, zero, List, [], ◌∷◌, length, map, set, get_or, refl, sym, ◌∙◌, ap, subst, arith, inl, inr, None, Some, Ok, Err, true, false, cond, Option, Result}
use Rattle.std.specs.Prelude.{slice_get, option_and_then, replicate}
use Rattle.std.specs.Option.{is_some, option_map, option_to_list}
use Rattle.std.specs.BTreeMap.{is_at}
use Rattle.std.specs.Cmp.{Equal-is}
use Rattle.std.specs.Map.{lookup}
use Rattle.std.specs.Ordering.{nat_cmp}
use Rattle.std.specs.Result.{OnErr}
use Rattle.std.proofs.Math.Seq.{map-set_same}
use Rattle.std.proofs.lemmas.Bool.{cases_eq}
use Rattle.std.proofs.lemmas.List.{length-map, length-replicate, length-set, map-set}
use Rattle.std.proofs.lemmas.List.Folds.{sum_by-replicate}
use Rattle.std.proofs.lemmas.List.Sums.{sum_by-set}
use Rattle.std.proofs.lemmas.Option.{get_or_from_slice_get, slice_get-get_or, slice_get-map}
use Rattle.std.proofs.lemmas.Map.Lookups.{exact_unsigned}
use Rattle.causal_base.specs.declared.event_id.EventId.{EventId}
use Rattle.causal_base.proofs.CallerLemmas.{same_id}
use Rattle.trace_queue.specs.Held.{HeldValues, held_at, count_held, HoldsNothing, KeepsOthers}

slice_get-set_same : {A : Type 0} (xs : List A) (k : ℕ) (x : A) → k < length xs → slice_get (set xs k x) k ≡ Some x
slice_get-set_same [] k x h = absurd (omega arith)
slice_get-set_same (y ∷ ys) zero x h = refl
slice_get-set_same (y ∷ ys) (suc k) x h = slice_get-set_same ys k x (omega arith)

slice_get-set_other : {A : Type 0} (xs : List A) (k j : ℕ) (x : A) → j ≢ k → slice_get (set xs k x) j ≡ slice_get xs j
slice_get-set_other [] k j x ne = refl
slice_get-set_other (y ∷ ys) zero zero x ne = absurd (ne refl)
slice_get-set_other (y ∷ ys) zero (suc j) x ne = refl
slice_get-set_other (y ∷ ys) (suc k) zero x ne = refl
slice_get-set_other (y ∷ ys) (suc k) (suc j) x ne = slice_get-set_other ys k j x (λ is. ne (ap suc is))

-- a number is looked up under itself alone
other_number : (a b : ℕ) → a ≢ b → is_at (nat_cmp a) b ≡ false
other_number a b ne = elim (is_at (nat_cmp a) b) as (λ t. is_at (nat_cmp a) b ≡ t → t ≡ false) [
  | true ↦ λ is. absurd (ne (exact_unsigned a b ((Equal-is (nat_cmp a b)).0 is)))
  | false ↦ λ is. refl
] refl

module _ {T : Type 0} (held : HeldValues T) (id : EventId) (inside : id.trace < length held) where
  -- what was held of the trace
  pub held_before : held_at held id ≡ lookup (is_at (nat_cmp id.number)) (get_or held id.trace [])
  held_before = ap (option_and_then (λ values. lookup (is_at (nat_cmp id.number)) values)) (slice_get-get_or held id.trace [] inside)

  module _ (values : List (ℕ × T)) where
    pub held_now : held_at (set held id.trace values) id ≡ lookup (is_at (nat_cmp id.number)) values
    held_now = ap (option_and_then (λ values. lookup (is_at (nat_cmp id.number)) values)) (slice_get-set_same held id.trace values inside)

    -- ids of other numbers and other traces keep what they had
    pub keeps_others : ((q : ℕ) → is_at (nat_cmp id.number) q ≡ false → lookup (is_at (nat_cmp q)) values ≡ lookup (is_at (nat_cmp q)) (get_or held id.trace [])) → KeepsOthers held (set held id.trace values) id
    keeps_others kept other ne = elim (cases_eq other.trace id.trace) [
      | inr apart ↦ ap (option_and_then (λ values. lookup (is_at (nat_cmp other.number)) values)) (slice_get-set_other held id.trace other.trace values apart)
      | inl same ↦
          let number : id.number ≢ other.number = λ is. ne (same_id other id same (sym is)) in
          ap (λ t. option_and_then (λ values. lookup (is_at (nat_cmp other.number)) values) (slice_get (set held id.trace values) t)) same
          ∙ (ap (option_and_then (λ values. lookup (is_at (nat_cmp other.number)) values)) (slice_get-set_same held id.trace values inside)
          ∙ (kept other.number (other_number id.number other.number number)
          ∙ sym (ap (λ t. option_and_then (λ values. lookup (is_at (nat_cmp other.number)) values) (slice_get held t)) same
          ∙ ap (option_and_then (λ values. lookup (is_at (nat_cmp other.number)) values)) (slice_get-get_or held id.trace [] inside))))
    ]

    -- the count follows that of the trace
    pub count_now : count_held (set held id.trace values) + length (get_or held id.trace []) ≡ count_held held + length values
    count_now = sum_by-set (λ values. length values) held id.trace values [] inside

-- lists of nothing hold nothing
nothing_at : {T : Type 0} (traces : ℕ) (id : EventId) → held_at (replicate traces (let none : List (ℕ × T) = [] in none)) id ≡ None
nothing_at {T} traces id = at traces id.trace
  where
    at : (count trace : ℕ) → option_and_then (λ values. lookup (is_at (nat_cmp id.number)) values) (slice_get (replicate count (let none : List (ℕ × T) = [] in none)) trace) ≡ None
    at zero trace = refl
    at (suc count) zero = refl
    at (suc count) (suc trace) = at count trace

pub holds_nothing : {T : Type 0} (traces : ℕ) (held : HeldValues T) → held ≡ replicate traces [] → HoldsNothing held traces
holds_nothing {T} traces held is = record {
  of_each = ap length is ∙ length-replicate traces [];
  none = λ id. ap (λ h. held_at h id) is ∙ nothing_at traces id;
  count = ap count_held is ∙ (sum_by-replicate (λ (values : List (ℕ × T)). length values) traces [] ∙ omega arith);
}

-- What is held after the queue of the trace of an id became another, which has this under the id's
-- number now.
pub record IsUpdated {T : Type 0} (before after : HeldValues T) (id : EventId) (had has : Option T) (less more : ℕ) : Type 0 where
  pub had_is : held_at before id ≡ had
  pub has_is : held_at after id ≡ has
  pub others : KeepsOthers before after id
  pub count : count_held after + less ≡ count_held before + more
  pub traces : length after ≡ length before

module _ {T A : Type 0} (entries : A → List (ℕ × T)) (queues : List A) (id : EventId) (old queue : A) (inside : id.trace < length queues) (was : get_or queues id.trace old ≡ old) where
  abbrev before : HeldValues T
  before = map entries queues

  within : id.trace < length before
  within = let e = length-map queues entries in omega (arith, e, inside)

  values_were : get_or before id.trace [] ≡ entries old
  values_were =
      let same : slice_get before id.trace ≡ Some (entries old) =
      slice_get-map entries queues id.trace ∙ ap (option_map entries) (slice_get-get_or queues id.trace old inside ∙ ap Some was) in
      get_or_from_slice_get before id.trace (entries old) [] same

  pub updated : (less more : ℕ)
      → ((q : ℕ) → is_at (nat_cmp id.number) q ≡ false → lookup (is_at (nat_cmp q)) (entries queue) ≡ lookup (is_at (nat_cmp q)) (entries old))
      → length (entries queue) + less ≡ length (entries old) + more
      → IsUpdated before (map entries (set queues id.trace queue)) id (lookup (is_at (nat_cmp id.number)) (entries old)) (lookup (is_at (nat_cmp id.number)) (entries queue)) less more
  updated less more kept size =
      subst (λ (after : HeldValues T). IsUpdated before after id (lookup (is_at (nat_cmp id.number)) (entries old)) (lookup (is_at (nat_cmp id.number)) (entries queue)) less more) (sym (map-set entries queues id.trace queue)) (record {
        had_is = held_before before id within ∙ ap (lookup (is_at (nat_cmp id.number))) values_were;
        has_is = held_now before id within (entries queue);
        others = keeps_others before id within (entries queue) (λ q apart. kept q apart ∙ ap (lookup (is_at (nat_cmp q))) (sym values_were));
        count =
            let sums = count_now before id within (entries queue) in
            let length_was = ap length values_were in
            omega (arith, sums, length_was, size);
        traces = length-set before id.trace (entries queue);
      })

  -- a queue with the entries that it had changes nothing
  pub unchanged : entries queue ≡ entries old → map entries (set queues id.trace queue) ≡ map entries queues
  unchanged same = map-set_same entries queues id.trace queue old (same ∙ ap entries (sym was))

pub on_err : {T E P : Type 0} (r : Result T E) → P → OnErr r P
on_err (Ok value) p = tt
on_err (Err error) p = p

-- how many an option has
pub one_if_some : {T : Type 0} (o : Option T) → cond (is_some o) 1 0 ≡ length (option_to_list o)
one_if_some None = refl
one_if_some (Some value) = refl
