use Rattle.std.proofs.Common.{◌≡◌, ◌≢◌, ◌≤◌, ◌+◌, ℕ, inl, inr, List, [], ◌∷◌, refl, sym, ◌∙◌, ap, subst, arith, cond, true, false, eq-eqb}
use Rattle.std.specs.Prelude.{Contains, ◌==◌}
use Rattle.std.proofs.lemmas.Bool.{cases_eq, ne_eqb}
use Rattle.std.proofs.lemmas.List.Sums.{sum_by-cons}
use Rattle.causal_base.specs.declared.event.Event.{Event}
use Rattle.causal_base.specs.declared.event_id.EventId.{EventId}
use Rattle.causal_base.specs.History.{count_on, IsNextOfTrace}
use Rattle.causal_base.proofs.Members.{Contains-cons, Contains-here, Contains-there, Contains-nil}

-- events, the newest first, of which each was the next of its trace
abbrev pub IsNumbered : List Event → Type 0
IsNumbered [] = Unit {0}
IsNumbered (e ∷ es) = IsNextOfTrace es e × IsNumbered es

count_on-cons : (t : ℕ) (e : Event) (es : List Event) → count_on t (e ∷ es) ≡ cond (e.id.trace == t) 1 0 + count_on t es
count_on-cons t e es = sum_by-cons (λ (x : Event). cond (x.id.trace == t) 1 0) e es

pub count_on-same : (t : ℕ) (e : Event) (es : List Event) → e.id.trace ≡ t → count_on t (e ∷ es) ≡ count_on t es + 1
count_on-same t e es is =
    let yes : (e.id.trace == t) ≡ true = eq-eqb e.id.trace t is in
    rw (count_on-cons t e es, yes) (omega arith)

pub count_on-other : (t : ℕ) (e : Event) (es : List Event) → e.id.trace ≢ t → count_on t (e ∷ es) ≡ count_on t es
count_on-other t e es is =
    let not_so : (e.id.trace == t) ≡ false = ne_eqb e.id.trace t is in
    rw (count_on-cons t e es, not_so) (omega arith)

pub count_on-grows : (t : ℕ) (e : Event) (es : List Event) → count_on t es ≤ count_on t (e ∷ es)
count_on-grows t e es = rw (count_on-cons t e es) (omega arith)

-- the numbers on a trace lie between 1 and the count
pub number_within : (es : List Event) → IsNumbered es → (e : Event) → Contains es e → (1 ≤ e.id.number) × (e.id.number ≤ count_on e.id.trace es)
number_within [] h e there = absurd (Contains-nil e there)
number_within (x ∷ es) h e there = elim (Contains-cons x es e there) [
  | inl is ↦ subst (λ (y : Event). (1 ≤ y.id.number) × (y.id.number ≤ count_on y.id.trace (x ∷ es))) is
      (let same = count_on-same x.id.trace x es refl in (omega (arith, h.0), omega (arith, h.0, same)))
  | inr inside ↦ let rest = number_within es h.1 e inside in let grows = count_on-grows e.id.trace x es in (rest.0, omega (arith, rest.1, grows))
]

-- each number up to the count is there
pub event_at : (es : List Event) → IsNumbered es → (t n : ℕ) → 1 ≤ n → n ≤ count_on t es → (e : Event) × Contains es e × (e.id.trace ≡ t) × (e.id.number ≡ n)
event_at [] h t n least most = absurd (omega arith)
event_at (x ∷ es) h t n least most = elim (cases_eq x.id.trace t) [
  | inl is ↦ let same = count_on-same t x es is in
      elim (cases_eq n x.id.number) [
        | inl here ↦ (x, Contains-here x es, is, sym here)
        | inr other ↦
            let next : x.id.number ≡ count_on t es + 1 = rw is at h.0 in
            let e = event_at es h.1 t n least (omega (arith, most, same, next, other)) in (e.0, Contains-there x es e.0 e.1, e.2, e.3)
      ]
  | inr other ↦ let same = count_on-other t x es other in let e = event_at es h.1 t n least (omega (arith, most, same)) in (e.0, Contains-there x es e.0 e.1, e.2, e.3)
]

-- ids differ
pub same_event : (es : List Event) → IsNumbered es → (x y : Event) → Contains es x → Contains es y → x.id ≡ y.id → x ≡ y
same_event [] h x y in_x in_y same = absurd (Contains-nil x in_x)
same_event (e ∷ es) h x y in_x in_y same = elim (Contains-cons e es x in_x) [
  | inl first ↦ elim (Contains-cons e es y in_y) [
    | inl second ↦ sym first ∙ second
    | inr inside ↦ absurd (let w = number_within es h.1 y inside in
        let e_is_y : e.id ≡ y.id = ap (λ (z : Event). z.id) first ∙ same in
        let next : y.id.number ≡ count_on y.id.trace es + 1 = subst (λ (i : EventId). i.number ≡ count_on i.trace es + 1) e_is_y h.0 in
        omega (arith, w.1, next))
  ]
  | inr inside_x ↦ elim (Contains-cons e es y in_y) [
    | inl second ↦ absurd (let w = number_within es h.1 x inside_x in
        let e_is_x : e.id ≡ x.id = ap (λ (z : Event). z.id) second ∙ sym same in
        let next : x.id.number ≡ count_on x.id.trace es + 1 = subst (λ (i : EventId). i.number ≡ count_on i.trace es + 1) e_is_x h.0 in
        omega (arith, w.1, next))
    | inr inside_y ↦ same_event es h.1 x y inside_x inside_y same
  ]
]
