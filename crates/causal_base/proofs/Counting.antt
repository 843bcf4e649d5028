-- How many elements pass a test.
use Rattle.std.proofs.Common.{◌≡◌, ◌+◌, ℕ, List, [], ◌∷◌, Bool, true, false, cond, refl, sym, ◌∙◌, ap, arith}
use Rattle.std.specs.Prelude.{Contains, ◌&&◌, All, count_by, slice_index_or}
use Rattle.std.proofs.lemmas.List.Elements.{Contains-get_or}
use Rattle.std.proofs.lemmas.List.Sums.{sum_by-cons}
use Rattle.causal_base.proofs.Members.{Contains-here, Contains-there}

-- how many pass is counted from the first element on
pub count_by-cons : {A : Type 0} (test : A → Bool) (x : A) (xs : List A) → count_by test (x ∷ xs) ≡ cond (test x) 1 0 + count_by test xs
count_by-cons test x xs = sum_by-cons (λ y. cond (test y) 1 0) x xs

-- tests that agree on each member count the same
pub count_by_agree : {A : Type 0} (test other : A → Bool) (xs : List A) → ((x : A) → Contains xs x → test x ≡ other x) → count_by test xs ≡ count_by other xs
count_by_agree test other [] agree = refl
count_by_agree {A} test other (x ∷ xs) agree =
    let here : test x ≡ other x = agree x (Contains-here x xs) in
    let rest : count_by test xs ≡ count_by other xs = count_by_agree test other xs (λ y inside. agree y (Contains-there x xs y inside)) in
    count_by-cons test x xs ∙ (ap (λ (b : Bool). cond b 1 0 + count_by test xs) here ∙ ap (λ (n : ℕ). cond (other x) 1 0 + n) rest) ∙ sym (count_by-cons other x xs)

-- true on the right changes no test
pub and_true : (b : Bool) → (b && true) ≡ b
and_true true = refl
and_true false = refl

-- what holds of each member holds at each index
pub All-from_members : {A : Type 0} (P : A → Type 0) (xs : List A) → ((x : A) → Contains xs x → P x) → All P xs
All-from_members P xs each k d inside = each (slice_index_or xs k d) (Contains-get_or xs k d inside)

-- an element that fails isn't counted
pub count_by_skip : {A : Type 0} (test : A → Bool) (x : A) (xs : List A) → test x ≡ false → count_by test (x ∷ xs) ≡ count_by test xs
count_by_skip test x xs fails = rw (count_by-cons test x xs, fails) (omega arith)
