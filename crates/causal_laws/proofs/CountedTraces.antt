-- How many events of a list lie on the first of the traces.
use Rattle.std.proofs.Common.{◌≡◌, ℕ, zero, suc, ◌+◌, ◌<◌, ◌≤◌, nat_lt, Bool, true, false, List, [], ◌∷◌, length, refl, arith, cond}
use Rattle.std.specs.Prelude.{◌==◌, Contains}
use Rattle.std.specs.List.{sum_by, count_by}
use Rattle.std.proofs.lemmas.List.Sums.{sum_by-cons}
use Rattle.causal_base.specs.declared.event.Event.{Event}
use Rattle.causal_base.specs.Clusters.{numbers_below}
use Rattle.causal_base.specs.History.{count_on}
use Rattle.causal_base.proofs.CallerLemmas.{Contains-here, Contains-there, count_by-cons}

-- how many events lie on one of the first traces
abbrev pub counted : ℕ → List Event → ℕ
counted traces events = sum_by (λ trace. count_on trace events) (numbers_below traces)

-- a number is one of the first ones, or the next, or neither
one_more : (t k : ℕ) → cond (t == k) 1 0 + cond (nat_lt t k) 1 0 ≡ cond (nat_lt t (suc k)) 1 0
one_more t k = grind arith

none_below : (t : ℕ) → ◌≡◌ {A = ℕ} (cond (nat_lt t 0) 1 0) 0
none_below t = grind arith

counted-cons : (traces : ℕ) (e : Event) (events : List Event) → counted traces (e ∷ events) ≡ cond (nat_lt e.id.trace traces) 1 0 + counted traces events
counted-cons zero e events =
    let none = none_below e.id.trace in
    let empty : counted zero (e ∷ events) ≡ 0 = refl in
    let rest : counted zero events ≡ 0 = refl in
    omega (arith, none, empty, rest)
counted-cons (suc k) e events =
    let first : counted (suc k) (e ∷ events) ≡ count_on k (e ∷ events) + counted k (e ∷ events) = sum_by-cons (λ trace. count_on trace (e ∷ events)) k (numbers_below k) in
    let second : counted (suc k) events ≡ count_on k events + counted k events = sum_by-cons (λ trace. count_on trace events) k (numbers_below k) in
    let here : count_on k (e ∷ events) ≡ cond (e.id.trace == k) 1 0 + count_on k events = count_by-cons (λ x. x.id.trace == k) e events in
    let rest : counted k (e ∷ events) ≡ cond (nat_lt e.id.trace k) 1 0 + counted k events = counted-cons k e events in
    let more = one_more e.id.trace k in
    omega (arith, first, second, here, rest, more)

at_most_one : (b : Bool) → cond b 1 0 ≤ 1
at_most_one true = omega arith
at_most_one false = omega arith

counted-none : (traces : ℕ) → counted traces [] ≡ 0
counted-none zero = refl
counted-none (suc k) =
    let first : counted (suc k) [] ≡ count_on k [] + counted k [] = sum_by-cons (λ trace. count_on trace []) k (numbers_below k) in
    let here : count_on k [] ≡ 0 = refl in
    let rest : counted k [] ≡ 0 = counted-none k in
    omega (arith, first, here, rest)

-- no more than all
pub counted_few : (traces : ℕ) (events : List Event) → counted traces events ≤ length events
counted_few traces [] = let none = counted-none traces in omega (arith, none)
counted_few traces (e ∷ events) =
    let first = counted-cons traces e events in
    let most = at_most_one (nat_lt e.id.trace traces) in
    let rest = counted_few traces events in
    omega (arith, first, most, rest)

below : (t k : ℕ) → t < k → ◌≡◌ {A = ℕ} (cond (nat_lt t k) 1 0) 1
below t k h = grind arith

-- all, where each lies on one of them
pub counted_all : (traces : ℕ) (events : List Event) → ((e : Event) → Contains events e → e.id.trace < traces) → counted traces events ≡ length events
counted_all traces [] on = counted-none traces
counted_all traces (e ∷ events) on =
    let first = counted-cons traces e events in
    let here = below e.id.trace traces (on e (Contains-here e events)) in
    let rest = counted_all traces events (λ x inside. on x (Contains-there e events x inside)) in
    omega (arith, first, here, rest)
