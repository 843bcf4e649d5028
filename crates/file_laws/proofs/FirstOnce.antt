-- Refusals that come with one error each.
use Rattle.std.proofs.Common.{◌≡◌, ◌<◌, ℕ, zero, suc, [], ◌∷◌, ◌++◌, inl, inr, arith}
use Rattle.causal_base.specs.Refusals.{Refusals, ArePassed, IsFirst, IsLeast}

-- each of these refusals comes with one error
abbrev pub HaveOneError : {Error : Type 0} → Refusals Error → Type 0
HaveOneError [] = Unit {0}
HaveOneError {Error} (refusal ∷ refusals) = ((error other : Error) → refusal error → refusal other → error ≡ other) × HaveOneError refusals

-- then the first of them comes with one error
pub first_once : {Error : Type 0} (refusals : Refusals Error) (error other : Error) → HaveOneError refusals → IsFirst refusals error → IsFirst refusals other → error ≡ other
first_once [] error other one first second = absurd first
first_once (refusal ∷ refusals) error other one first second = elim first [
  | inl holds ↦ elim second [ inl also ↦ one.0 error other holds also | inr later ↦ absurd (later.0 error holds) ]
  | inr later ↦ elim second [ inl holds ↦ absurd (later.0 other holds) | inr more ↦ first_once refusals error other one.1 later.1 more.1 ]
]

-- some and more
pub one_of_both : {Error : Type 0} (some more : Refusals Error) → HaveOneError some → HaveOneError more → HaveOneError (some ++ more)
one_of_both [] more one also = also
one_of_both (refusal ∷ some) more one also = (one.0, one_of_both some more one.1 also)

-- where none is the first, none applies
pub passed_from_none : {Error : Type 0} (refusals : Refusals Error) → ((error : Error) → IsFirst refusals error → ⊥) → ArePassed refusals
passed_from_none [] none = tt
passed_from_none (refusal ∷ refusals) none =
    let passed = λ (error : _) (it : refusal error). none error (inl it) in
    (passed, passed_from_none refusals (λ error first. none error (inr (passed, first))))

-- what none of some and more is, is none of some, and none of more
pub passed_some : {Error : Type 0} (some more : Refusals Error) → ArePassed (some ++ more) → ArePassed some
passed_some [] more passed = tt
passed_some (refusal ∷ some) more passed = (passed.0, passed_some some more passed.1)

pub passed_more : {Error : Type 0} (some more : Refusals Error) → ArePassed (some ++ more) → ArePassed more
passed_more [] more passed = passed
passed_more (refusal ∷ some) more passed = passed_more some more passed.1

-- the least number is one
pub least_once : (count : ℕ) (Has : ℕ → Type 0) (i j : ℕ) → IsLeast count Has i → IsLeast count Has j → i ≡ j
least_once count Has i j one other =
    let not_below : i < j → ⊥ = λ below. other.none_before i below one.has in
    let not_above : j < i → ⊥ = λ above. one.none_before j above other.has in
    omega (arith, not_below, not_above)

-- where none is the least, none below the count has the property
none_below : (count : ℕ) (Has : ℕ → Type 0) → ((i : ℕ) → IsLeast count Has i → ⊥) → (n i : ℕ) → i < n → i < count → Has i → ⊥
none_below count Has none zero i before below has = omega (arith, before)
none_below count Has none (suc n) i before below has =
    none i (record { below = below; has = has; none_before = λ j earlier. none_below count Has none n j (omega (arith, before, earlier)) (omega (arith, below, earlier)) })

pub none_from_least : (count : ℕ) (Has : ℕ → Type 0) → ((i : ℕ) → IsLeast count Has i → ⊥) → (i : ℕ) → i < count → Has i → ⊥
none_from_least count Has none i below has = none_below count Has none count i below below has
