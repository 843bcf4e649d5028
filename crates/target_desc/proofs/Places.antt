-- What stands at a place of a list.
use Rattle.std.proofs.Common.{◌≡◌, ℕ, zero, suc, ◌⊎◌, ◌<◌, List, [], ◌∷◌, ◌++◌, length, Option, Some, None, option_map, ap, sym, refl, inl, inr, arith}
use Rattle.std.specs.Prelude.{slice_get, Contains}
use Rattle.std.proofs.lemmas.Option.{slice_get_within, slice_get_read, get_or_from_slice_get, slice_get_cases}

-- what a map gives comes from something
pub from_mapped : {A B : Type 0} (f : A → B) (found : Option A) (y : B) → option_map f found ≡ Some y → (x : A) × (found ≡ Some x) × (f x ≡ y)
from_mapped f None y h = absurd (cc)
from_mapped f (Some x) y h = (x, refl, cc)

-- an element and its place
pub contained : {A : Type 0} (xs : List A) (i : ℕ) (x : A) → slice_get xs i ≡ Some x → Contains xs x
contained xs i x at = (i, slice_get_within xs i x at, get_or_from_slice_get xs i x x at)

pub place_in : {A : Type 0} (xs : List A) (x : A) → Contains xs x → (i : ℕ) × (slice_get xs i ≡ Some x)
place_in xs x has = (has.0, slice_get_read xs (length xs) has.0 x refl has.1 (sym has.2))

pub place_below : {A : Type 0} (xs : List A) (i : ℕ) → i < length xs → (x : A) × (slice_get xs i ≡ Some x)
place_below xs i below = elim ((slice_get_cases xs i).1) [
  | inl found ↦ (found.0, found.2)
  | inr past ↦ absurd (omega (arith, below, past.0))
]

-- what stands at a place after a push stood there before, or is the last
pub pushed_at : {A : Type 0} (xs : List A) (last : A) (i : ℕ) (x : A) → slice_get (xs ++ last ∷ []) i ≡ Some x → (slice_get xs i ≡ Some x) ⊎ ((i ≡ length xs) × (x ≡ last))
pushed_at [] last zero x at = inr (refl, let same : Some last ≡ Some x = at in cc)
pushed_at [] last (suc i) x at = absurd (let clash : None ≡ Some x = at in cc)
pushed_at (first ∷ xs) last zero x at = inl at
pushed_at (first ∷ xs) last (suc i) x at = elim (pushed_at xs last i x at) [
  | inl before ↦ inl before
  | inr end ↦ inr (ap suc end.0, end.1)
]
