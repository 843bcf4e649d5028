-- How many numbers below one pass a test.
use Rattle.std.proofs.Common.{◌≡◌, ◌+◌, ◌<◌, ◌≤◌, ℕ, suc, zero, inl, inr, Bool, true, false, cond, refl, ap, arith, length}
use Rattle.std.specs.Prelude.{count_by, ◌==◌}
use Rattle.std.proofs.lemmas.Bool.{cases_eq, eq-eqb, ne_eqb}
use Rattle.std.proofs.lemmas.List.Sums.{count_by-le-length}
use Rattle.causal_base.specs.Clusters.{numbers_below}
use Rattle.causal_base.proofs.CallerLemmas.{count_by-cons}

-- so many numbers are below one
length-numbers_below : (n : ℕ) → length (numbers_below n) ≡ n
length-numbers_below zero = refl
length-numbers_below (suc n) = omega (arith, length-numbers_below n)

-- no more pass than there are
pub count_few : (test : ℕ → Bool) (n : ℕ) → count_by test (numbers_below n) ≤ n
count_few test n = omega (arith, count_by-le-length test (numbers_below n), length-numbers_below n)

-- a test that passes each number as often as two others do together
pub count_sum : (test one other : ℕ → Bool) (n : ℕ) → ((x : ℕ) → x < n → ◌≡◌ {A = ℕ} (cond (test x) 1 0) (cond (one x) 1 0 + cond (other x) 1 0))
    → count_by test (numbers_below n) ≡ count_by one (numbers_below n) + count_by other (numbers_below n)
count_sum test one other zero each = refl
count_sum test one other (suc n) each =
    let rest = count_sum test one other n (λ x below. each x (omega (arith, below))) in
    let here = each n (omega arith) in
    let a = count_by-cons test n (numbers_below n) in
    let b = count_by-cons one n (numbers_below n) in
    let c = count_by-cons other n (numbers_below n) in
    omega (arith, rest, here, a, b, c)

-- tests that agree below a number count the same
pub count_agree : (test other : ℕ → Bool) (n : ℕ) → ((x : ℕ) → x < n → test x ≡ other x) → count_by test (numbers_below n) ≡ count_by other (numbers_below n)
count_agree test other zero agree = refl
count_agree test other (suc n) agree =
    let rest = count_agree test other n (λ x below. agree x (omega (arith, below))) in
    let here : ◌≡◌ {A = ℕ} (cond (test n) 1 0) (cond (other n) 1 0) = ap (λ b. cond b 1 0) (agree n (omega arith)) in
    let a = count_by-cons test n (numbers_below n) in
    let b = count_by-cons other n (numbers_below n) in
    omega (arith, rest, here, a, b)

-- a test that every number fails, or passes
pub count_none : (test : ℕ → Bool) (n : ℕ) → ((x : ℕ) → x < n → test x ≡ false) → count_by test (numbers_below n) ≡ 0
count_none test zero fails = refl
count_none test (suc n) fails =
    let rest = count_none test n (λ x below. fails x (omega (arith, below))) in
    let here : ◌≡◌ {A = ℕ} (cond (test n) 1 0) 0 = ap (λ b. cond b 1 0) (fails n (omega arith)) in
    let a = count_by-cons test n (numbers_below n) in
    omega (arith, rest, here, a)

pub count_all : (test : ℕ → Bool) (n : ℕ) → ((x : ℕ) → test x ≡ true) → count_by test (numbers_below n) ≡ n
count_all test zero passes = refl
count_all test (suc n) passes =
    let rest = count_all test n passes in
    let here : ◌≡◌ {A = ℕ} (cond (test n) 1 0) 1 = ap (λ b. cond b 1 0) (passes n) in
    let a = count_by-cons test n (numbers_below n) in
    omega (arith, rest, here, a)

-- a number is there once
pub count_one : (label n : ℕ) → label < n → count_by (λ x. label == x) (numbers_below n) ≡ 1
count_one label zero within = absurd (omega (arith, within))
count_one label (suc n) within =
    let a = count_by-cons (λ x. label == x) n (numbers_below n) in
    elim (cases_eq label n) [
      | inl here ↦
          let first : ◌≡◌ {A = ℕ} (cond (label == n) 1 0) 1 = ap (λ b. cond b 1 0) (eq-eqb label n here) in
          let rest = count_none (λ x. label == x) n (λ x below. ne_eqb label x (λ same. omega (arith, here, same, below))) in
          omega (arith, a, first, rest)
      | inr elsewhere ↦
          let first : ◌≡◌ {A = ℕ} (cond (label == n) 1 0) 0 = ap (λ b. cond b 1 0) (ne_eqb label n elsewhere) in
          let rest = count_one label n (omega (arith, within, elsewhere)) in
          omega (arith, a, first, rest)
    ]
