-- A search among rising numbers that ends beside all of them.
use Rattle.std.proofs.Common.{◌≡◌, ◌≤◌, ◌<◌, ℕ, zero, suc, List, [], ◌∷◌, length, get_or, arith, inl, inr, ap}
use Rattle.std.specs.Prelude.{Contains, Err}
use Rattle.std.specs.List.Sorted.{IsStrictlyIncreasing, IsBinarySearchResult}
use Rattle.std.specs.Ordering.{nat_cmp}
use Rattle.std.proofs.lemmas.Bool.{cases_order}
use Rattle.std.proofs.lemmas.List.Kept.{AllPairs-from_increasing}
use Rattle.std.proofs.lemmas.List.Sorted.{searched}
use Rattle.causal_base.proofs.CallerLemmas.{Contains-cons, Contains-nil}

place_of : (xs : List ℕ) (x : ℕ) → Contains xs x → (i : ℕ) × (i < length xs) × (get_or xs i 0 ≡ x)
place_of [] x inside = absurd (Contains-nil x inside)
place_of (y ∷ ys) x inside = elim (Contains-cons y ys x inside) [
  | inl is ↦ (zero, omega arith, is)
  | inr rest ↦ (let found = place_of ys x rest in (suc found.0, omega (arith, found.1), found.2))
]

pub not_found : (xs : List ℕ) (x i : ℕ) → IsStrictlyIncreasing xs → IsBinarySearchResult (λ y. nat_cmp y x) xs (Err i) → Contains xs x → ⊥
not_found xs x i up found inside =
    let told = searched xs x (Err i) found rises in
    let place = place_of xs x inside in
    let is = place.2 in
    elim (cases_order place.0 i) [
      | inl at ↦ (let over = told.2 place.0 (omega (arith, at)) place.1 in omega (arith, over, is))
      | inr apart ↦ elim apart [
        | inl before ↦ (let below = told.1 place.0 before in omega (arith, below, is))
        | inr past ↦ (let over = told.2 place.0 (omega (arith, past)) place.1 in omega (arith, over, is))
      ]
    ]
  where
    rises : (a b : ℕ) → a ≤ b → b < length xs → get_or xs a 0 ≤ get_or xs b 0
    rises a b le within = elim (cases_order a b) [
      | inl is ↦ (let same = ap (λ k. get_or xs k 0) is in omega (arith, same))
      | inr apart ↦ elim apart [
        | inl lt ↦ (let less = AllPairs-from_increasing xs up a b 0 lt within in omega (arith, less))
        | inr gt ↦ absurd (omega (arith, le, gt))
      ]
    ]
