use Rattle.std.proofs.Common.{◌≡◌, ℕ, zero, suc, ◌+◌, ◌*◌, ◌/◌, ◌%◌, ◌<◌, List, [], ◌∷◌, ◌++◌, length, length-append, refl, sym, ◌∙◌, ap, arith, subst, Some}
use Rattle.std.specs.Prelude.{slice_get, All}
use Rattle.std.specs.List.{flat_map}
use Rattle.std.specs.Option.{option_and_then}
use Rattle.std.proofs.lemmas.List.Elements.{All-head, All-tail}

module _ {A : Type 0} where
  pub slice_get-append_left : (xs ys : List A) (k : ℕ) → k < length xs → slice_get (xs ++ ys) k ≡ slice_get xs k
  slice_get-append_left [] ys k h = absurd (omega arith)
  slice_get-append_left (x ∷ xs) ys zero h = refl
  slice_get-append_left (x ∷ xs) ys (suc k) h = slice_get-append_left xs ys k (omega arith)

  pub slice_get-append_right : (xs ys : List A) (at k : ℕ) → at ≡ length xs + k → slice_get (xs ++ ys) at ≡ slice_get ys k
  slice_get-append_right [] ys at k e = let same : at ≡ k = omega arith in ap (slice_get ys) same
  slice_get-append_right (x ∷ xs) ys zero k e = absurd (omega arith)
  slice_get-append_right (x ∷ xs) ys (suc at) k e = slice_get-append_right xs ys at k (omega arith)

  pub All-slice_get : (P : A → Type 0) (xs : List A) (k : ℕ) (x : A) → All P xs → Some x ≡ slice_get xs k → P x
  All-slice_get P [] k x all e = absurd cc
  All-slice_get P (y ∷ ys) zero x all e = let same : x ≡ y = cc in subst P (sym same) (All-head P y ys all)
  All-slice_get P (y ∷ ys) (suc k) x all e = All-slice_get P ys k x (All-tail P y ys all) e

module _ {A X : Type 0} (f : X → List A) (n : ℕ) where
  -- pieces of one length
  pub length-pieces : (xs : List X) → All (λ x. length (f x) ≡ n) xs → length (flat_map f xs) ≡ length xs * n
  length-pieces [] full = omega arith
  length-pieces (x ∷ xs) full =
      let this : length (f x) ≡ n = All-head (λ y. length (f y) ≡ n) x xs full in
      let rest : length (flat_map f xs) ≡ length xs * n = length-pieces xs (All-tail (λ y. length (f y) ≡ n) x xs full) in
      omega (arith, length-append (f x) (flat_map f xs))

  -- item i*n+j of pieces of one length is item j of piece i
  pub slice_get-pieces : (xs : List X) → All (λ x. length (f x) ≡ n) xs → (i j at : ℕ) → j < n → at ≡ i * n + j → slice_get (flat_map f xs) at ≡ option_and_then (λ x. slice_get (f x) j) (slice_get xs i)
  slice_get-pieces [] full i j at h e = refl
  slice_get-pieces (x ∷ xs) full zero j at h e =
      let this : length (f x) ≡ n = All-head (λ y. length (f y) ≡ n) x xs full in
      let same : at ≡ j = omega arith in
      ap (slice_get (f x ++ flat_map f xs)) same ∙ slice_get-append_left (f x) (flat_map f xs) j (omega arith)
  slice_get-pieces (x ∷ xs) full (suc i) j at h e =
      let this : length (f x) ≡ n = All-head (λ y. length (f y) ≡ n) x xs full in
      slice_get-append_right (f x) (flat_map f xs) at (i * n + j) (omega arith)
      ∙ slice_get-pieces xs (All-tail (λ y. length (f y) ≡ n) x xs full) i j (i * n + j) h refl

  pub slice_get-pieces_by_division : (xs : List X) → All (λ x. length (f x) ≡ n) xs → (at : ℕ) → 0 < n → slice_get (flat_map f xs) at ≡ option_and_then (λ x. slice_get (f x) (at % n)) (slice_get xs (at / n))
  slice_get-pieces_by_division xs full at h = slice_get-pieces xs full (at / n) (at % n) at (omega arith) (omega arith)
