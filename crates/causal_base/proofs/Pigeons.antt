use Rattle.std.proofs.Common.{◌≡◌, ◌≢◌, ◌≤◌, ◌+◌, ℕ, Bool, cond, inl, inr, length, List, [], ◌∷◌, sym, ◌∙◌, ap, subst, arith}
use Rattle.std.specs.Prelude.{Contains, count_by}
use Rattle.causal_base.specs.declared.event.Event.{Event}
use Rattle.causal_base.specs.History.{count_on}
use Rattle.causal_base.proofs.Counting.{count_by-cons}
use Rattle.causal_base.proofs.Members.{Contains-cons, Contains-here, Contains-there, Contains-nil}
use Rattle.causal_base.proofs.Numbered.{IsNumbered, number_within}

-- the list without one of its members, of which the others pass a test as often as before
pub without : {A : Type 0} (xs : List A) (x : A) → Contains xs x → (ys : List A) × (length xs ≡ length ys + 1) × ((y : A) → Contains xs y → y ≢ x → Contains ys y) × ((test : A → Bool) → count_by test xs ≡ count_by test ys + cond (test x) 1 0)
without [] x there = absurd (Contains-nil x there)
without (z ∷ zs) x there = elim (Contains-cons z zs x there) [
  | inl is ↦ (
    zs,
    omega arith,
    λ y inside other. elim (Contains-cons z zs y inside) [ inl also ↦ absurd (other (sym also ∙ is)) | inr rest ↦ rest ],
    λ test.
        let first = count_by-cons test z zs in
        let same : ◌≡◌ {A = ℕ} (cond (test z) 1 0) (cond (test x) 1 0) = ap (λ w. cond (test w) 1 0) is in
        omega (arith, first, same),
  )
  | inr inside ↦
      let rest = without zs x inside in (
        z ∷ rest.0,
        omega (arith, rest.1),
        λ y among other. elim (Contains-cons z zs y among) [
          | inl also ↦ subst (λ w. Contains (z ∷ rest.0) w) also (Contains-here z rest.0)
          | inr further ↦ Contains-there z rest.0 y (rest.2 y further other)
        ],
        λ test.
            let first = count_by-cons test z zs in
            let also = count_by-cons test z rest.0 in
            let others = rest.3 test in
            omega (arith, first, also, others),
      )
]

-- numbered events that are all among others are no more than those
pub length-numbered : (es : List Event) → IsNumbered es → (xs : List Event) → ((e : Event) → Contains es e → Contains xs e) → length es ≤ length xs
length-numbered [] h xs among = omega arith
length-numbered (e ∷ es) h xs among =
    let rest = without xs e (among e (Contains-here e es)) in
    let fewer = length-numbered es h.1 rest.0 (λ x inside. rest.2 x (among x (Contains-there e es x inside)) (λ same.
    let within = number_within es h.1 x inside in
    let next = subst (λ (y : Event). y.id.number ≡ count_on y.id.trace es + 1) (sym same) h.0 in
    omega (arith, within.1, next))) in
    omega (arith, rest.1, fewer)
