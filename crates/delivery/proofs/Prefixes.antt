use Rattle.std.proofs.Common.{◌≡◌, ◌<◌, ◌≤◌, ◌+◌, ◌⊎◌, ℕ, suc, zero, List, [], ◌∷◌, length, take, get_or, inl, inr, refl, sym, ap, subst, arith}
use Rattle.std.specs.Prelude.{Contains}
use Rattle.causal_base.proofs.CallerLemmas.{Contains-cons, Contains-nil, Contains-there, Contains-here}

-- a prefix of the whole length is the list
pub take_all : {A : Type 0} (xs : List A) (k : ℕ) → length xs ≤ k → take k xs ≡ xs
take_all [] zero h = refl
take_all [] (suc k) h = refl
take_all (x ∷ xs) zero h = absurd (omega arith)
take_all (x ∷ xs) (suc k) h = ap (λ ys. x ∷ ys) (take_all xs k (omega arith))

-- what a longer prefix has is in the shorter one, or is the element that it has more
more_at : {A : Type 0} (xs : List A) (k : ℕ) (d x : A) → k < length xs → Contains (take (suc k) xs) x → Contains (take k xs) x ⊎ (x ≡ get_or xs k d)
more_at [] k d x below among = absurd (omega arith)
more_at (y ∷ ys) zero d x below among = elim (Contains-cons y [] x among) [ inl is ↦ inr (sym is) | inr none ↦ absurd (Contains-nil x none) ]
more_at (y ∷ ys) (suc k) d x below among = elim (Contains-cons y (take (suc k) ys) x among) [
  | inl is ↦ inl (subst (λ z. Contains (y ∷ take k ys) z) is (Contains-here y (take k ys)))
  | inr rest ↦ elim (more_at ys k d x (omega arith) rest) [ inl before ↦ inl (Contains-there y (take k ys) x before) | inr last ↦ inr last ]
]

pub among_more : {A : Type 0} (xs : List A) (k : ℕ) (d x : A) → k < length xs → Contains (take (k + 1) xs) x → Contains (take k xs) x ⊎ (x ≡ get_or xs k d)
among_more xs k d x below among =
    let next : k + 1 ≡ suc k = omega arith in
    more_at xs k d x below (subst (λ n. Contains (take n xs) x) next among)
