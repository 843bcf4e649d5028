-- Lists of the traces that pass a test, in rising order.
use Rattle.std.proofs.Common.{◌≡◌, ◌+◌, ◌<◌, ◌≤◌, ℕ, suc, zero, inl, inr, List, [], ◌∷◌, ◌++◌, length, refl, sym, ◌∙◌, ap, subst, Bool, true, false, cond, get_or, arith}
use Rattle.std.specs.Prelude.{Contains, count_by, filter, reverse}
use Rattle.std.specs.List.Sorted.{IsStrictlyIncreasing}
use Rattle.std.proofs.lemmas.Bool.{cases_lt, cases_eq}
use Rattle.std.proofs.lemmas.List.{append-nil, reverse-append, length-reverse, get_or_append_left}
use Rattle.std.proofs.Math.Seq.{get_or-append_seam}
use Rattle.std.proofs.lemmas.List.Elements.{Contains-append_left, Contains-push, Contains-push_cases, filter-append}
use Rattle.std.proofs.lemmas.List.Kept.{IsStrictlyIncreasing-filter}
use Rattle.std.proofs.lemmas.List.Sums.{length-filter, count_by-le-length}
use Rattle.causal_base.specs.Clusters.{numbers_below}
use Rattle.causal_base.proofs.CallerLemmas.{count_by-cons, Contains-nil}
use Rattle.cluster_members.specs.Kept.{traces_that}

-- one trace more
pub traces_that-suc : (test : ℕ → Bool) (n : ℕ) → traces_that test (suc n) ≡ traces_that test n ++ cond (test n) (n ∷ []) []
traces_that-suc test n = ap (filter test) (reverse-append (n ∷ []) (numbers_below n)) ∙ filter-append test (reverse (numbers_below n)) (n ∷ [])

pub traces_that-yes : (test : ℕ → Bool) (n : ℕ) → test n ≡ true → traces_that test (n + 1) ≡ traces_that test n ++ n ∷ []
traces_that-yes test n passes =
    let next : n + 1 ≡ suc n = omega arith in
    ap (traces_that test) next ∙ (traces_that-suc test n ∙ ap (λ b. traces_that test n ++ cond b (n ∷ []) []) passes)

pub traces_that-no : (test : ℕ → Bool) (n : ℕ) → test n ≡ false → traces_that test (n + 1) ≡ traces_that test n
traces_that-no test n fails =
    let next : n + 1 ≡ suc n = omega arith in
    ap (traces_that test) next ∙ (traces_that-suc test n ∙ (ap (λ b. traces_that test n ++ cond b (n ∷ []) []) fails ∙ append-nil (traces_that test n)))

-- tests that agree on the traces
pub traces_that-agree : (test other : ℕ → Bool) (n : ℕ) → ((x : ℕ) → x < n → test x ≡ other x) → traces_that test n ≡ traces_that other n
traces_that-agree test other zero agree = refl
traces_that-agree test other (suc n) agree =
    traces_that-suc test n
    ∙ (ap (λ b. traces_that test n ++ cond b (n ∷ []) []) (agree n (omega arith))
    ∙ (ap (λ xs. xs ++ cond (other n) (n ∷ []) []) (traces_that-agree test other n (λ x below. agree x (omega (arith, below)))) ∙ sym (traces_that-suc other n)))

count_by-append : (test : ℕ → Bool) (xs ys : List ℕ) → count_by test (xs ++ ys) ≡ count_by test xs + count_by test ys
count_by-append test [] ys = omega arith
count_by-append test (x ∷ xs) ys =
    let rest = count_by-append test xs ys in
    let a = count_by-cons test x (xs ++ ys) in
    let b = count_by-cons test x xs in
    omega (arith, rest, a, b)

count_by-reverse : (test : ℕ → Bool) (xs : List ℕ) → count_by test (reverse xs) ≡ count_by test xs
count_by-reverse test [] = refl
count_by-reverse test (x ∷ xs) =
    let a = ap (count_by test) (reverse-append (x ∷ []) xs) in
    let b = count_by-append test (reverse xs) (x ∷ []) in
    let c = count_by-reverse test xs in
    let d = count_by-cons test x xs in
    let e = count_by-cons test x [] in
    omega (arith, a, b, c, d, e)

-- there are as many as pass it
pub length-traces_that : (test : ℕ → Bool) (n : ℕ) → length (traces_that test n) ≡ count_by test (numbers_below n)
length-traces_that test n = length-filter test (reverse (numbers_below n)) ∙ count_by-reverse test (numbers_below n)

one_follows : (a b : Bool) → (a ≡ true → b ≡ true) → cond a 1 0 ≤ cond b 1 0
one_follows false b follows = omega arith
one_follows true true follows = omega arith
one_follows true false follows = absurd (let clash : false ≡ true = follows refl in cc)

one_same : (a b : Bool) → ◌≡◌ {A = ℕ} (cond a 1 0) (cond b 1 0) → a ≡ b
one_same false false same = refl
one_same true true same = refl
one_same true false same = absurd (omega (arith, same))
one_same false true same = absurd (omega (arith, same))

count_follows : (test other : ℕ → Bool) (n : ℕ) → ((x : ℕ) → x < n → test x ≡ true → other x ≡ true) → count_by test (numbers_below n) ≤ count_by other (numbers_below n)
count_follows test other zero follows = omega arith
count_follows test other (suc n) follows =
    let rest = count_follows test other n (λ x below. follows x (omega (arith, below))) in
    let first = one_follows (test n) (other n) (follows n (omega arith)) in
    let a = count_by-cons test n (numbers_below n) in
    let b = count_by-cons other n (numbers_below n) in
    omega (arith, rest, first, a, b)

-- Where what passes the one test passes the other, and as many pass the one as the other, they agree.
pub count_same : (test other : ℕ → Bool) (n : ℕ) → ((x : ℕ) → x < n → test x ≡ true → other x ≡ true) → count_by test (numbers_below n) ≡ count_by other (numbers_below n) → (x : ℕ) → x < n → test x ≡ other x
count_same test other zero follows same x below = absurd (omega (arith, below))
count_same test other (suc n) follows same x below =
    let before : (y : ℕ) → y < n → test y ≡ true → other y ≡ true = λ y under. follows y (omega (arith, under)) in
    let rest = count_follows test other n before in
    let first = one_follows (test n) (other n) (follows n (omega arith)) in
    let a = count_by-cons test n (numbers_below n) in
    let b = count_by-cons other n (numbers_below n) in
    elim (cases_eq x n) [
      | inl here ↦
          let own : ◌≡◌ {A = ℕ} (cond (test n) 1 0) (cond (other n) 1 0) = omega (arith, rest, first, a, b, same) in
          subst (λ (y : ℕ). test y ≡ other y) (sym here) (one_same (test n) (other n) own)
      | inr elsewhere ↦
          let fewer : count_by test (numbers_below n) ≡ count_by other (numbers_below n) = omega (arith, rest, first, a, b, same) in
          count_same test other n before fewer x (omega (arith, below, elsewhere))
    ]

-- what is in the list
pub traces_that-has : (test : ℕ → Bool) (n x : ℕ) → Contains (traces_that test n) x → (x < n) × (test x ≡ true)
traces_that-has test zero x has = absurd (Contains-nil x has)
traces_that-has test (suc n) x has =
    elim (test n) as (λ b. test n ≡ b → Contains (traces_that test n ++ cond b (n ∷ []) []) x → (x < suc n) × (test x ≡ true)) [
      | true ↦ λ passes among. elim (Contains-push_cases (traces_that test n) n x among) [
        | inl earlier ↦ (let rest = traces_that-has test n x earlier in let below = rest.0 in (omega (arith, below), rest.1))
        | inr here ↦ (omega (arith, here), subst (λ (y : ℕ). test y ≡ true) here passes)
      ]
      | false ↦ λ fails among.
          let rest = traces_that-has test n x (subst (λ (xs : List ℕ). Contains xs x) (append-nil (traces_that test n)) among) in
          let below = rest.0 in
          (omega (arith, below), rest.1)
    ] refl (subst (λ (xs : List ℕ). Contains xs x) (traces_that-suc test n) has)

pub traces_that-contains : (test : ℕ → Bool) (n x : ℕ) → x < n → test x ≡ true → Contains (traces_that test n) x
traces_that-contains test zero x within passes = absurd (omega (arith, within))
traces_that-contains test (suc n) x within passes =
    subst (λ (xs : List ℕ). Contains xs x) (sym (traces_that-suc test n)) (elim (cases_eq x n) [
      | inl here ↦
          let last : test n ≡ true = ap test (sym here) ∙ passes in
          subst (λ (b : Bool). Contains (traces_that test n ++ cond b (n ∷ []) []) x) (sym last)
          (subst (λ (y : ℕ). Contains (traces_that test n ++ n ∷ []) y) (sym here) (Contains-push (traces_that test n) n))
      | inr elsewhere ↦ Contains-append_left (traces_that test n) (cond (test n) (n ∷ []) []) x (traces_that-contains test n x (omega (arith, within, elsewhere)) passes)
    ])

length-numbers_below : (n : ℕ) → length (reverse (numbers_below n)) ≡ n
length-numbers_below n = length-reverse (numbers_below n) ∙ plain n
  where
    plain : (m : ℕ) → length (numbers_below m) ≡ m
    plain zero = refl
    plain (suc m) = ap suc (plain m)

number_at : (n k : ℕ) → k < n → get_or (reverse (numbers_below n)) k 0 ≡ k
number_at zero k within = absurd (omega (arith, within))
number_at (suc n) k within =
    ap (λ (xs : List ℕ). get_or xs k 0) (reverse-append (n ∷ []) (numbers_below n))
    ∙ elim (cases_lt k n) [
      | inl below ↦
          let inside : k < length (reverse (numbers_below n)) = omega (arith, below, length-numbers_below n) in
          get_or_append_left (reverse (numbers_below n)) (n ∷ []) 0 k inside ∙ number_at n k below
      | inr above ↦
          let last : k ≡ length (reverse (numbers_below n)) = omega (arith, within, above, length-numbers_below n) in
          ap (λ i. get_or (reverse (numbers_below n) ++ n ∷ []) i 0) last ∙ (get_or-append_seam (reverse (numbers_below n)) n [] 0 ∙ omega (arith, within, above))
    ]

-- it rises
pub traces_that-rise : (test : ℕ → Bool) (n : ℕ) → IsStrictlyIncreasing (traces_that test n)
traces_that-rise test n = IsStrictlyIncreasing-filter test (reverse (numbers_below n)) (λ k within.
    let long = length-numbers_below n in
    let one = number_at n k (omega (arith, within, long)) in
    let two = number_at n (k + 1) (omega (arith, within, long)) in
    omega (arith, one, two))

-- and has at most all of them
pub traces_that-few : (test : ℕ → Bool) (n : ℕ) → length (traces_that test n) ≤ n
traces_that-few test n = omega (arith, length-filter test (reverse (numbers_below n)), count_by-le-length test (reverse (numbers_below n)), length-numbers_below n)
