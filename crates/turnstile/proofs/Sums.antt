-- Sums over a list of passes of which one changes.
use Rattle.std.proofs.Common.{◌≡◌, ℕ, zero, suc, ◌+◌, ◌≤◌, ◌≢◌, List, [], ◌∷◌, set, refl, ap, sym, arith}
use Rattle.std.specs.List.{sum_by}
use Rattle.std.proofs.lemmas.List.Sums.{sum_by-cons}
use mathlib.Core.Option.{some, some-injective, some-ne-none}
use lib.ListN.{get_elem?}

module _ {A : Type 0} (f : A → ℕ) where
  pub sum_by-set : (xs : List A) (j : ℕ) (v w : A) → get_elem? xs j ≡ some v → sum_by f (set xs j w) + f v ≡ sum_by f xs + f w
  sum_by-set [] j v w at = absurd (some-ne-none v (sym at))
  sum_by-set (x ∷ xs) zero v w at = omega (arith, sum_by-cons f x xs, sum_by-cons f w xs, ap f (some-injective x v at))
  sum_by-set (x ∷ xs) (suc j) v w at = omega (arith, sum_by-cons f x xs, sum_by-cons f x (set xs j w), sum_by-set xs j v w at)

  -- a term is at most the sum
  pub term_le : (xs : List A) (j : ℕ) (v : A) → get_elem? xs j ≡ some v → f v ≤ sum_by f xs
  term_le [] j v at = absurd (some-ne-none v (sym at))
  term_le (x ∷ xs) zero v at = omega (arith, sum_by-cons f x xs, ap f (some-injective x v at))
  term_le (x ∷ xs) (suc j) v at = omega (arith, sum_by-cons f x xs, term_le xs j v at)

  -- two terms together are at most the sum
  pub terms_le : (xs : List A) (j k : ℕ) (v u : A) → k ≢ j → get_elem? xs j ≡ some v → get_elem? xs k ≡ some u → f v + f u ≤ sum_by f xs
  terms_le [] j k v u apart at there = absurd (some-ne-none v (sym at))
  terms_le (x ∷ xs) zero zero v u apart at there = absurd (apart (omega arith))
  terms_le (x ∷ xs) zero (suc k) v u apart at there = omega (arith, sum_by-cons f x xs, ap f (some-injective x v at), term_le xs k u there)
  terms_le (x ∷ xs) (suc j) zero v u apart at there = omega (arith, sum_by-cons f x xs, ap f (some-injective x u there), term_le xs j v at)
  terms_le (x ∷ xs) (suc j) (suc k) v u apart at there = omega (arith, sum_by-cons f x xs, terms_le xs j k v u (λ e. apart (ap suc e)) at there)

  sums_le : (g : A → ℕ) → ((x : A) → f x ≤ g x) → (xs : List A) → sum_by f xs ≤ sum_by g xs
  sums_le g less [] = omega arith
  sums_le g less (x ∷ xs) = omega (arith, sum_by-cons f x xs, sum_by-cons g x xs, less x, sums_le g less xs)

  -- where each term of g is at least that of f, one of them makes the difference of the sums at least its own
  pub gap_le : (g : A → ℕ) → ((x : A) → f x ≤ g x) → (xs : List A) (j : ℕ) (v : A) → get_elem? xs j ≡ some v → sum_by f xs + g v ≤ sum_by g xs + f v
  gap_le g less [] j v at = absurd (some-ne-none v (sym at))
  gap_le g less (x ∷ xs) zero v at =
      omega (arith, sum_by-cons f x xs, sum_by-cons g x xs, ap f (some-injective x v at), ap g (some-injective x v at), sums_le g less xs)
  gap_le g less (x ∷ xs) (suc j) v at = omega (arith, sum_by-cons f x xs, sum_by-cons g x xs, less x, gap_le g less xs j v at)

  pub sum_by-none : (xs : List A) → ((j : ℕ) (v : A) → get_elem? xs j ≡ some v → f v ≡ 0) → sum_by f xs ≡ 0
  sum_by-none [] each = refl
  sum_by-none (x ∷ xs) each = omega (arith, sum_by-cons f x xs, each 0 x refl, sum_by-none xs (λ j v at. each (suc j) v at))
