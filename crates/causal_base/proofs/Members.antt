use Rattle.std.proofs.Common.{◌≡◌, ◌<◌, ℕ, suc, zero, ◌⊎◌, inl, inr, length, List, [], ◌∷◌, refl, sym, ap, subst, arith, cond, Bool, true, false, Some}
use Rattle.std.specs.Prelude.{Contains, slice_index_or, find}

Contains-cons_at : {A : Type 0} (x : A) (xs : List A) (y : A) (k : ℕ) → k < length (x ∷ xs) → slice_index_or (x ∷ xs) k y ≡ y → (x ≡ y) ⊎ Contains xs y
Contains-cons_at x xs y zero inside is = inl is
Contains-cons_at x xs y (suc k) inside is = inr (k, omega arith, is)

-- a member of x ∷ xs is x, or a member of xs
pub Contains-cons : {A : Type 0} (x : A) (xs : List A) (y : A) → Contains (x ∷ xs) y → (x ≡ y) ⊎ Contains xs y
Contains-cons x xs y h = Contains-cons_at x xs y h.0 h.1 h.2

pub Contains-here : {A : Type 0} (x : A) (xs : List A) → Contains (x ∷ xs) x
Contains-here x xs = (0, omega arith, refl)

pub Contains-first : {A : Type 0} (x : A) (xs : List A) (y : A) → x ≡ y → Contains (x ∷ xs) y
Contains-first x xs y e = (0, omega arith, e)

pub Contains-there : {A : Type 0} (x : A) (xs : List A) (y : A) → Contains xs y → Contains (x ∷ xs) y
Contains-there x xs y h = (suc h.0, omega (arith, h.1), h.2)

pub Contains-nil : {A : Type 0} (y : A) → Contains [] y → ⊥
Contains-nil y h = absurd (omega (arith, h.1))

pub Contains-one : {A : Type 0} (x y : A) → Contains (x ∷ []) y → x ≡ y
Contains-one x y h = elim (Contains-cons x [] y h) [ inl is ↦ is | inr there ↦ absurd (Contains-nil y there) ]

-- what `find` finds is a member that passes the test
pub find-member : {A : Type 0} (test : A → Bool) (xs : List A) (x : A) → find test xs ≡ Some x → Contains xs x × (test x ≡ true)
find-member test [] x found = absurd cc
find-member {A} test (y ∷ ys) x found =
    elim (test y) as (λ b. test y ≡ b → cond b (Some y) (find test ys) ≡ Some x → Contains (y ∷ ys) x × (test x ≡ true)) [
      | true ↦ λ passes is. let e : y ≡ x = cc in (Contains-first y ys x e, subst (λ z. test z ≡ true) e passes)
      | false ↦ λ fails is. let rest = find-member test ys x is in (Contains-there y ys x rest.0, rest.1)
    ] refl found

-- a member that passes the test is found, where no other member passes it
pub find-only : {A : Type 0} (test : A → Bool) (xs : List A) (x : A) → Contains xs x → test x ≡ true → ((y : A) → Contains xs y → test y ≡ true → y ≡ x) → find test xs ≡ Some x
find-only test [] x there passes only = absurd (Contains-nil x there)
find-only {A} test (y ∷ ys) x there passes only =
    elim (test y) as (λ b. test y ≡ b → cond b (Some y) (find test ys) ≡ Some x) [
      | true ↦ λ it. ap Some (only y (Contains-here y ys) it)
      | false ↦ λ fails. find-only test ys x
          (elim (Contains-cons y ys x there) [ inl e ↦ absurd (let passes_too : test y ≡ true = subst (λ z. test z ≡ true) (sym e) passes in let apart : true ≡ false = cc in cc) | inr t ↦ t ])
          passes (λ z inside it. only z (Contains-there y ys z inside) it)
    ] refl
