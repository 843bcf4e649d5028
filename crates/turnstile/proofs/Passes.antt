-- The passes of a turnstile, of which one changes.
use Rattle.std.proofs.Common.{◌≡◌, ℕ, zero, suc, ◌<◌, ◌≤◌, ◌≢◌, ◌⊎◌, Bool, true, false, cond, ◌&&◌, nat_le, nat_lt, List, [], ◌∷◌, set, refl, sym, ap, ◌∙◌, inl, inr, ⊎_elim, arith}
use Rattle.std.proofs.lemmas.Bool.{le-leb, lt-ltb}
use mathlib.Core.Option.{some, some-ne-none}
use lib.ListN.{get_elem?}
use Rattle.atomic_table.proofs.Lists.{at_set, set_else}
use Rattle.turnstile.specs.declared.view.Stage.{Stage}
use Rattle.turnstile.specs.declared.view.Stage.TheVariants.{Resting, Drawn, Read, Appended, Joined}
use Rattle.turnstile.specs.declared.view.Standing.{Standing}
use Rattle.turnstile.specs.Views.{turn_of, slot_of, turns_out, slots_out, cover_of, ranges_over, IsLive}
use Rattle.turnstile.proofs.Sums.{term_le, terms_le, gap_le}

-- who has the slot has the turn
pub slot_le : (stage : Stage) → slot_of stage ≤ turn_of stage
slot_le Resting = omega arith
slot_le Drawn = omega arith
slot_le Read = omega arith
slot_le Appended = omega arith
slot_le (Joined first number second) = omega arith

pub turn_le : (stage : Stage) → turn_of stage ≤ 1
turn_le Resting = omega arith
turn_le Drawn = omega arith
turn_le Read = omega arith
turn_le Appended = omega arith
turn_le (Joined first number second) = omega arith

module _ {F : Type 0} where
  pub at_here : (passes : List (Standing F)) (id : ℕ) (x y : Standing F) → get_elem? passes id ≡ some x → get_elem? (set passes id y) id ≡ some y
  at_here [] id x y at = absurd (some-ne-none x (sym at))
  at_here (p ∷ passes) zero x y at = refl
  at_here (p ∷ passes) (suc id) x y at = at_here passes id x y at

  pub live_set : (passes : List (Standing F)) (id : ℕ) (y : Standing F) (j : ℕ) (u : Standing F) → IsLive (set passes id y) j u
      → ((j ≡ id) × (y ≡ u)) ⊎ ((j ≢ id) × IsLive passes j u)
  live_set passes id y j u live = ⊎_elim inl (λ (t : (j ≢ id) × (get_elem? passes j ≡ some u)). inr (t.0, record { at = t.1; live = live.live }))
      (at_set passes id j y u live.at)

  pub live_else : (passes : List (Standing F)) (id : ℕ) (y : Standing F) (j : ℕ) (u : Standing F) → j ≢ id → IsLive passes j u → IsLive (set passes id y) j u
  live_else passes id y j u apart there = record { at = set_else passes id j y apart ∙ there.at; live = there.live }

  pub cover-in : (number : ℕ) (x : Standing F) → x.view.lo ≤ number → number < x.view.hi → cover_of number x ≡ 1
  cover-in number x low high = ap (λ (b : Bool). cond b 1 0) (λ i. le-leb x.view.lo number low i && lt-ltb number x.view.hi high i)

  pub cover_le : (number : ℕ) (x : Standing F) → cover_of number x ≤ 1
  cover_le number x = cond_le (nat_le x.view.lo number && nat_lt number x.view.hi)
    where
      cond_le : (b : Bool) → cond b 1 0 ≤ 1
      cond_le true = omega arith
      cond_le false = omega arith

  -- no number lies in the ranges of two live passes
  pub apart_at : (passes : List (Standing F)) (j k number : ℕ) (x u : Standing F) → ranges_over number passes ≤ 1 → k ≢ j
      → IsLive passes j x → IsLive passes k u → x.view.lo ≤ number → number < x.view.hi → u.view.lo ≤ number → number < u.view.hi → ⊥
  apart_at passes j k number x u few apart at there a b c d =
      omega (arith, terms_le (cover_of number) passes j k x u apart at.at there.at, cover-in number x a b, cover-in number u c d)

  -- where one pass at most has the turn, nobody has it beside the pass that has it
  pub only_turn : (passes : List (Standing F)) (j k : ℕ) (x u : Standing F) → turns_out passes ≤ 1 → k ≢ j → get_elem? passes j ≡ some x
      → get_elem? passes k ≡ some u → turn_of x.stage ≡ 1 → turn_of u.stage ≡ 0
  only_turn passes j k x u few apart at there has =
      omega (arith, terms_le (λ pass. turn_of pass.stage) passes j k x u apart at there)

  -- who has drawn finds the slot full
  pub slots_drawn : (passes : List (Standing F)) (j : ℕ) (x : Standing F) → turns_out passes ≤ 1 → get_elem? passes j ≡ some x
      → turn_of x.stage ≡ 1 → slot_of x.stage ≡ 0 → slots_out passes ≡ 0
  slots_drawn passes j x few at has none =
      omega (arith, gap_le (λ pass. slot_of pass.stage) (λ pass. turn_of pass.stage) (λ pass. slot_le pass.stage) passes j x at)

  -- who has the slot has it alone
  pub slots_taken : (passes : List (Standing F)) (j : ℕ) (x : Standing F) → turns_out passes ≤ 1 → get_elem? passes j ≡ some x
      → slot_of x.stage ≡ 1 → (slots_out passes ≡ 1) × (turns_out passes ≡ 1) × (turn_of x.stage ≡ 1)
  slots_taken passes j x few at has =
      let gap = gap_le (λ pass. slot_of pass.stage) (λ pass. turn_of pass.stage) (λ pass. slot_le pass.stage) passes j x at in
      let some_slot = term_le (λ pass. slot_of pass.stage) passes j x at in
      let some_turn = term_le (λ pass. turn_of pass.stage) passes j x at in
      let less = slot_le x.stage in (omega arith, omega arith, omega arith)
