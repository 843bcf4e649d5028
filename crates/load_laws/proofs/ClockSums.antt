-- The numbers of a whole clock add up to how many events reach its event.
use Rattle.std.proofs.Common.{◌≡◌, ◌<◌, ◌≤◌, ◌+◌, ℕ, zero, suc, Bool, true, false, cond, List, [], ◌∷◌, length, take, refl, sym, ◌∙◌, ap, arith, add-one, eq-eqb}
use Rattle.std.specs.Prelude.{Contains, ◌↔◌, ◌==◌, ◌&&◌, IsTrue, count_by, filter, slice_index, sum}
use Rattle.std.specs.List.{sum_by}
use Rattle.std.proofs.lemmas.Bool.{and_from, and_parts, eqb-true}
use Rattle.std.proofs.lemmas.List.{take_all}
use Rattle.std.proofs.lemmas.List.Elements.{All-contains, All-filter}
use Rattle.std.proofs.lemmas.List.Sums.{length-filter, sum_by-cons, sum_by_more}
use Rattle.causal_base.specs.declared.event.Event.{Event}
use Rattle.causal_base.specs.Clocks.{IsClock}
use Rattle.causal_base.specs.Clusters.{numbers_below}
use Rattle.causal_base.specs.History.{count_on}
use Rattle.causal_base.specs.Types.{TypeTable}
use Rattle.causal_base.specs.Walks.{Reaches}
use Rattle.causal_base.proofs.CallerLemmas.{All-from_members, count_by-cons}
use Rattle.causal_laws.proofs.Clocks.{counts_is_one}
use Rattle.causal_laws.proofs.CountedTraces.{counted, counted_all}

-- of those that pass a test, so many lie on a trace as pass the test and lie on it
count_on-filter : (test : Event → Bool) (trace : ℕ) (events : List Event) → count_by (λ x. test x && (x.id.trace == trace)) events ≡ count_on trace (filter test events)
count_on-filter test trace [] = refl
count_on-filter test trace (e ∷ events) =
    let rest = count_on-filter test trace events in
    count_by-cons (λ x. test x && (x.id.trace == trace)) e events
    ∙ elim (test e) as (λ b. cond (b && (e.id.trace == trace)) 1 0 + count_by (λ x. test x && (x.id.trace == trace)) events ≡ count_on trace (cond b (e ∷ filter test events) (filter test events))) [
      | true ↦ ap (λ n. cond (e.id.trace == trace) 1 0 + n) rest ∙ sym (count_by-cons (λ (x : Event). x.id.trace == trace) e (filter test events))
      | false ↦ omega (arith, rest)
    ]

-- what agrees at each of the first numbers adds up to the same
sum_by-below : (f g : ℕ → ℕ) (n : ℕ) → ((k : ℕ) → k < n → f k ≡ g k) → sum_by f (numbers_below n) ≡ sum_by g (numbers_below n)
sum_by-below f g zero agree = refl
sum_by-below f g (suc k) agree =
    let first = sum_by-cons f k (numbers_below k) in
    let second = sum_by-cons g k (numbers_below k) in
    let here = agree k (omega arith) in
    let rest = sum_by-below f g k (λ j low. agree j (omega (arith, low))) in
    omega (arith, first, second, here, rest)

-- the first numbers of a list add up to those at the first places
sum-take : (xs : List ℕ) (n : ℕ) → n ≤ length xs → sum (take n xs) ≡ sum_by (slice_index xs) (numbers_below n)
sum-take xs zero within = refl
sum-take xs (suc k) within =
    let first = ap (λ n. sum (take n xs)) (add-one k) in
    let more = sum_by_more (λ (x : ℕ). x) xs k 0 within in
    let here = sum_by-cons (slice_index xs) k (numbers_below k) in
    let rest = sum-take xs k (omega (arith, within)) in
    omega (arith, first, more, here, rest)

-- an event of this trace that reaches e
abbrev IsCounted : TypeTable → List Event → Event → ℕ → Event → Type 0
IsCounted types events e trace x = (x.id.trace ≡ trace) × Reaches types events x e

module _ (types : TypeTable) (events : List Event) (on_traces : (x : Event) → Contains events x → x.id.trace < types.traces) (e : Event) (test : Event → Bool) (decides : (x : Event) → Contains events x → IsTrue (test x) ↔ Reaches types events x e) where
  -- those that reach e and lie on a trace are so many as the clock says
  number_on_trace : (trace n : ℕ) → IsClock types events e trace n → n ≡ count_on trace (filter test events)
  number_on_trace trace n clock = counts_is_one (IsCounted types events e trace) events n (count_on trace (filter test events)) clock (record {
    test = λ x. test x && (x.id.trace == trace);
    decides = All-from_members (λ (x : Event). IsTrue (test x && (x.id.trace == trace)) ↔ IsCounted types events e trace x) events (λ x inside. (
      (λ passes.
          let parts = and_parts (test x) (x.id.trace == trace) passes in
          (eqb-true x.id.trace trace parts.1, (decides x inside).0 parts.0)),
      (λ is. and_from (test x) (x.id.trace == trace) ((decides x inside).1 is.1) (eq-eqb x.id.trace trace is.0)),
    ));
    number_is = count_on-filter test trace events;
  })

  -- those that reach e lie on the traces
  passed_on_traces : (x : Event) → Contains (filter test events) x → x.id.trace < types.traces
  passed_on_traces x inside =
      let on_trace : Event → Type 0 = λ y. y.id.trace < types.traces in
      All-contains on_trace (filter test events) x (All-filter test on_trace events (All-from_members on_trace events on_traces)) inside

  -- the numbers at the places of the clock add up to how many reach e on some trace
  sum_by_place : (clock : List ℕ) → ((trace : ℕ) → trace < types.traces → IsClock types events e trace (slice_index clock trace)) → sum_by (slice_index clock) (numbers_below types.traces) ≡ counted types.traces (filter test events)
  sum_by_place clock clocks =
      sum_by-below (slice_index clock) (λ trace. count_on trace (filter test events)) types.traces (λ trace low. number_on_trace trace (slice_index clock trace) (clocks trace low))

  -- so the clock adds up to how many reach e
  pub sum-clock : (clock : List ℕ) → length clock ≡ types.traces → ((trace : ℕ) → trace < types.traces → IsClock types events e trace (slice_index clock trace)) → sum clock ≡ count_by test events
  sum-clock clock whole clocks =
      let all = ap sum (take_all types.traces clock (omega (arith, whole))) in
      let by_place = sum-take clock types.traces (omega (arith, whole)) in
      let by_trace = sum_by_place clock clocks in
      let each_once = counted_all types.traces (filter test events) passed_on_traces in
      let passed = length-filter test events in
      omega (arith, all, by_place, by_trace, each_once, passed)
