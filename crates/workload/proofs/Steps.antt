-- What a step adds, and what the list is after all steps.
use Rattle.std.proofs.Common.{◌≡◌, ◌≢◌, ◌+◌, ◌-◌, ◌<◌, ◌≤◌, ℕ, zero, suc, Bool, true, false, cond, inl, inr, List, [], ◌∷◌, ◌++◌, length, Option, None, Some, refl, sym, ap, subst, arith, ◌∙◌, length-append}
use Rattle.std.specs.Prelude.{◌==◌, ◌||◌, ◌%◌, nat_le}
use Rattle.std.proofs.lemmas.Bool.{cases_lt}
use Rattle.std.proofs.lemmas.Bool.Decides.{nat_tests}
use Rattle.causal_base.specs.declared.event.Event.{Event}
use Rattle.causal_base.specs.declared.event_id.EventId.{EventId}
use Rattle.workload.specs.Workload.{drawn, unary, send, receive, last_send, next_event, one, received, paired, step, made}

-- the number after the three draws of a step
abbrev drawn_on : ℕ → ℕ
drawn_on x = drawn (drawn (drawn x))

-- the list after a step
abbrev after_step : (n traces : ℕ) → List Event → (x : ℕ) → List Event
after_step n traces events x = events ++ step events (n - length events) (drawn x % traces) (drawn (drawn x) % 4) (drawn_on x % traces)

-- What holds of each of the four things that a step may add holds of what it adds.
module _ (P : List Event → Type 0) (events : List Event) (left p q : ℕ)
    (single : P (one events p unary)) (sent : P (one events p send))
    (came : (id : EventId) → last_send events q ≡ Some id → P (next_event events p receive (Some id) ∷ []))
    (pair : p ≢ q → 2 ≤ left → P (paired events p q)) where
  -- a choice of two has what both have
  either : (b : Bool) (added other : List Event) → P added → P other → P (cond b added other)
  either true added other has other_has = has
  either false added other has other_has = other_has

  -- a receive, or a unary event where there is no send
  received_is : (id : Option EventId) → last_send events q ≡ id → P (received events p id)
  received_is None is = single
  received_is (Some id) is = came id is

  -- a pair, or a unary event where there is none
  pair_is : P (cond ((p == q) || nat_le left 1) (one events p unary) (paired events p q))
  pair_is = elim ((p == q) || nat_le left 1) as (λ b. ((p == q) || nat_le left 1) ≡ b → P (cond b (one events p unary) (paired events p q))) [
    | true ↦ λ is. single
    | false ↦ λ is. pair (grind (arith, nat_tests)) (grind (arith, nat_tests))
  ] refl

  pub step_is : (choice : ℕ) → P (step events left p choice q)
  step_is choice = either (choice == 1) _ _ sent (either (choice == 2) _ _ (received_is (last_send events q) refl) (either (choice == 3) _ _ pair_is single))

-- a step adds at least one event, and no more than are left
pub length-step : (events : List Event) (left p choice q : ℕ) → 1 ≤ left → (1 ≤ length (step events left p choice q)) × (length (step events left p choice q) ≤ left)
length-step events left p choice q some =
    let alone : (1 ≤ 1) × (1 ≤ left) = (omega arith, some) in
    step_is (λ added. (1 ≤ length added) × (length added ≤ left)) events left p q alone alone (λ id is. alone) (λ apart two. (omega arith, two)) choice

-- it takes the list at least one event further, and not past n
length-after_step : (n traces : ℕ) (events : List Event) (x : ℕ) → length events < n → (length events < length (after_step n traces events x)) × (length (after_step n traces events x) ≤ n)
length-after_step n traces events x few =
    let added = step events (n - length events) (drawn x % traces) (drawn (drawn x) % 4) (drawn_on x % traces) in
    let more = length-step events (n - length events) (drawn x % traces) (drawn (drawn x) % 4) (drawn_on x % traces) (omega arith) in
    let longer = length-append events added in
    (omega (arith, more.0, longer), omega (arith, more.1, longer))

-- once there are n events, no step adds any
made-full : (n traces steps : ℕ) (events : List Event) (x : ℕ) → n ≤ length events → made steps n traces events x ≡ events
made-full n traces zero events x full = refl
made-full n traces (suc steps) events x full =
    let is : nat_le n (length events) ≡ true = grind (arith, nat_tests) in
    ap (λ b. cond b events (made steps n traces (after_step n traces events x) (drawn_on x))) is

-- before that, each adds to them
made-step : (n traces steps : ℕ) (events : List Event) (x : ℕ) → length events < n → made (suc steps) n traces events x ≡ made steps n traces (after_step n traces events x) (drawn_on x)
made-step n traces steps events x few =
    let is : nat_le n (length events) ≡ false = grind (arith, nat_tests) in
    ap (λ b. cond b events (made steps n traces (after_step n traces events x) (drawn_on x))) is

-- as many steps as events are left to be made are enough
pub made-enough : (n traces steps other : ℕ) (events : List Event) (x : ℕ) → n ≤ length events + steps → n ≤ length events + other → made steps n traces events x ≡ made other n traces events x
made-enough n traces zero other events x enough enough_too = sym (made-full n traces other events x (omega arith))
made-enough n traces (suc steps) zero events x enough enough_too = made-full n traces (suc steps) events x (omega arith)
made-enough n traces (suc steps) (suc other) events x enough enough_too = elim (cases_lt (length events) n) [
  | inl few ↦
      let longer = (length-after_step n traces events x few).0 in
      made-step n traces steps events x few
      ∙ (made-enough n traces steps other (after_step n traces events x) (drawn_on x) (omega (arith, longer)) (omega (arith, longer))
      ∙ sym (made-step n traces other events x few))
  | inr full ↦ made-full n traces (suc steps) events x full ∙ sym (made-full n traces (suc other) events x full)
]

-- they make n events
pub length-made : (n traces steps : ℕ) (events : List Event) (x : ℕ) → length events ≤ n → n ≤ length events + steps → length (made steps n traces events x) ≡ n
length-made n traces zero events x most enough = omega arith
length-made n traces (suc steps) events x most enough = elim (cases_lt (length events) n) [
  | inl few ↦
      let longer = length-after_step n traces events x few in
      ap length (made-step n traces steps events x few)
      ∙ length-made n traces steps (after_step n traces events x) (drawn_on x) longer.1 (omega (arith, longer.0))
  | inr full ↦ ap length (made-full n traces (suc steps) events x full) ∙ omega arith
]

-- What each step keeps of the list, all of them keep. A step is for traces that are there.
pub made_keeps : (P : List Event → Type 0) (n traces : ℕ)
    → ((events : List Event) (p choice q : ℕ) → length events < n → (1 ≤ traces → p < traces) → (1 ≤ traces → q < traces) → P events → P (events ++ step events (n - length events) p choice q))
    → (steps : ℕ) (events : List Event) (x : ℕ) → P events → P (made steps n traces events x)
made_keeps P n traces keeps zero events x has = has
made_keeps P n traces keeps (suc steps) events x has = elim (cases_lt (length events) n) [
  | inl few ↦ subst P (sym (made-step n traces steps events x few))
      (made_keeps P n traces keeps steps (after_step n traces events x) (drawn_on x)
      (keeps events (drawn x % traces) (drawn (drawn x) % 4) (drawn_on x % traces) few (λ some. omega arith) (λ some. omega arith) has))
  | inr full ↦ subst P (sym (made-full n traces (suc steps) events x full)) has
]

-- After a step the list that the rest of the steps makes is the same.
pub made_after : (n traces left : ℕ) (events more whole : List Event) (x first second third : ℕ)
    → first ≡ drawn x → second ≡ drawn first → third ≡ drawn second
    → left + length events ≡ n → 0 < left
    → more ≡ events ++ step events left (first % traces) (second % 4) (third % traces)
    → ((steps : ℕ) → left ≤ steps → made steps n traces events x ≡ whole)
    → (length more ≤ n) × ((steps : ℕ) → n ≤ length more + steps → made steps n traces more third ≡ whole)
made_after n traces left events more whole x first second third one_on two_on three_on all some is rest =
    let same_left : n - length events ≡ left = omega arith in
    let same : after_step n traces events x ≡ more = cc in
    let longer = length-after_step n traces events x (omega arith) in
    let as_long : length (after_step n traces events x) ≡ length more = ap length same in (
      omega (arith, longer.1, as_long),
      λ steps enough.
          let taken = made-step n traces (left + steps) events x (omega arith) in
          let known = rest (suc (left + steps)) (omega arith) in
          let as_well = made-enough n traces steps (left + steps) more third enough (omega arith) in
          cc,
    )
