-- The events of a trace that reach an event are those with a number up to a limit, which is a clock.
use Rattle.std.proofs.Common.{◌≡◌, ◌≢◌, ◌<◌, ◌≤◌, ◌+◌, ◌-◌, ℕ, suc, zero, inl, inr, List, [], ◌∷◌, Bool, true, false, cond, sym, ◌∙◌, ap, subst, arith, eq-eqb}
use Rattle.std.specs.Prelude.{Contains, ◌↔◌, ◌==◌, ◌&&◌, IsTrue, count_by, nat_le}
use Rattle.std.proofs.lemmas.Bool.{cases_eq, cases_lt, ne_eqb, eqb-true, leb-true, le-leb, and_parts, and_from, false_from_ne_true}
use Rattle.causal_base.specs.declared.event.Event.{Event}
use Rattle.causal_base.specs.Types.{TypeTable}
use Rattle.causal_base.specs.Walks.{Step, Reaches}
use Rattle.causal_base.specs.Clocks.{IsClock}
use Rattle.causal_base.specs.History.{count_on}
use Rattle.causal_base.proofs.Counting.{count_by-cons, count_by_agree, and_true, count_by_skip, All-from_members}
use Rattle.causal_base.proofs.Ids.{same_id}
use Rattle.causal_base.proofs.Numbered.{IsNumbered, number_within, event_at, same_event, count_on-same, count_on-other}
use Rattle.causal_base.proofs.Reaching.{reaches_on, reaches_itself, step_reaches}

module _ (types : TypeTable) (events : List Event) (all_numbered : IsNumbered events) where
  reaches_after : (more : ℕ) (x y : Event) → Contains events x → Contains events y → x.id.trace ≡ y.id.trace → y.id.number ≡ more + x.id.number → Reaches types events x y
  reaches_after zero x y in_x in_y trace number =
      let same_number : x.id.number ≡ y.id.number = omega (arith, number) in
      let same = same_event events all_numbered x y in_x in_y (same_id x.id y.id trace same_number) in
      subst (λ (v : Event). Reaches types events x v) same (reaches_itself types events x in_x)
  reaches_after (suc more) x y in_x in_y trace number =
      let least_x = (number_within events all_numbered x in_x).0 in
      let most_y = (number_within events all_numbered y in_y).1 in
      let least : 1 ≤ more + x.id.number = omega (arith, least_x) in
      let most : more + x.id.number ≤ count_on y.id.trace events = omega (arith, most_y, number) in
      let z = event_at events all_numbered y.id.trace (more + x.id.number) least most in
      let before = reaches_after more x z.0 in_x z.1 (trace ∙ sym z.2) z.3 in
      let next : y.id.number ≡ z.0.id.number + 1 = omega (arith, number, z.3) in
      let step : Step types events z.0 y = record { from = z.1; to = in_y; cause = inl (record { trace = sym z.2; number = next }) } in
      reaches_on types events x z.0 y before (step_reaches types events z.0 y step)

  -- an event reaches the later ones of its trace
  pub reaches_later : (x y : Event) → Contains events x → Contains events y → x.id.trace ≡ y.id.trace → x.id.number ≤ y.id.number → Reaches types events x y
  reaches_later x y in_x in_y trace order =
      let more : y.id.number ≡ (y.id.number - x.id.number) + x.id.number = omega (arith, order) in
      reaches_after (y.id.number - x.id.number) x y in_x in_y trace more

-- The events of the trace that have the property are those with a number up to the limit.
pub record IsLimit (events : List Event) (trace : ℕ) (Property : Event → Type 0) (limit : ℕ) : Type 0 where
  pub most : limit ≤ count_on trace events
  pub to : (x : Event) → Contains events x → x.id.trace ≡ trace → x.id.number ≤ limit → Property x
  pub from : (x : Event) → Contains events x → x.id.trace ≡ trace → Property x → x.id.number ≤ limit

-- the event lies on the trace, and has a number up to the limit
abbrev is_up_to : ℕ → ℕ → Event → Bool
is_up_to trace limit x = (x.id.trace == trace) && nat_le x.id.number limit

not_on : (trace limit : ℕ) (x : Event) → x.id.trace ≢ trace → is_up_to trace limit x ≡ false
not_on trace limit x other = ap (λ b. b && nat_le x.id.number limit) (ne_eqb x.id.trace trace other)

not_below : (trace limit : ℕ) (x : Event) → limit < x.id.number → is_up_to trace limit x ≡ false
not_below trace limit x above = false_from_ne_true (is_up_to trace limit x) (λ passes.
    let parts = and_parts (x.id.trace == trace) (nat_le x.id.number limit) passes in
    let below = leb-true x.id.number limit parts.1 in
    omega (arith, above, below))

-- of numbered events so many lie within a limit
count_within : (events : List Event) → IsNumbered events → (trace limit : ℕ) → limit ≤ count_on trace events → count_by (is_up_to trace limit) events ≡ limit
count_within [] h trace limit most = omega (arith, most)
count_within (e ∷ es) h trace limit most = elim (cases_eq e.id.trace trace) [
  | inr other ↦
      let same = count_on-other trace e es other in
      count_by_skip (is_up_to trace limit) e es (not_on trace limit e other) ∙ count_within es h.1 trace limit (omega (arith, most, same))
  | inl on ↦
      let more = count_on-same trace e es on in
      let next : e.id.number ≡ count_on trace es + 1 = subst (λ t. e.id.number ≡ count_on t es + 1) on h.0 in
      elim (cases_lt (count_on trace es) limit) [
        | inr few ↦ count_by_skip (is_up_to trace limit) e es (not_below trace limit e (omega (arith, next, few))) ∙ count_within es h.1 trace limit few
        | inl all ↦
            let here : is_up_to trace limit e ≡ true = and_from (e.id.trace == trace) (nat_le e.id.number limit) (eq-eqb e.id.trace trace on) (le-leb e.id.number limit (omega (arith, next, all))) in
            let rest : count_by (is_up_to trace limit) es ≡ count_on trace es = count_by_agree (is_up_to trace limit) (λ x. x.id.trace == trace) es (λ x inside. within all x inside) in
            let first : count_by (is_up_to trace limit) (e ∷ es) ≡ 1 + count_by (is_up_to trace limit) es = count_by-cons (is_up_to trace limit) e es ∙ ap (λ (b : Bool). cond b 1 0 + count_by (is_up_to trace limit) es) here in
            omega (arith, first, rest, most, more, all)
      ]
]
  where
    within : count_on trace es < limit → (x : Event) → Contains es x → is_up_to trace limit x ≡ (x.id.trace == trace)
    within all x inside = elim (cases_eq x.id.trace trace) [
      | inr other ↦ not_on trace limit x other ∙ sym (ne_eqb x.id.trace trace other)
      | inl on ↦
          let its = (number_within es h.1 x inside).1 in
          let its_too : x.id.number ≤ count_on trace es = subst (λ t. x.id.number ≤ count_on t es) on its in
          let passes : nat_le x.id.number limit ≡ true = le-leb x.id.number limit (omega (arith, its_too, all)) in
          ap (λ b. (x.id.trace == trace) && b) passes ∙ and_true (x.id.trace == trace)
    ]

module _ (types : TypeTable) (events : List Event) (numbers : IsNumbered events) where
  -- the limit of what reaches an event is its clock
  pub clock_from_limit : (e : Event) (trace n : ℕ) → IsLimit events trace (λ x. Reaches types events x e) n → IsClock types events e trace n
  clock_from_limit e trace n limit = record {
    test = is_up_to trace n;
    decides = All-from_members (λ (x : Event). IsTrue (is_up_to trace n x) ↔ ((x.id.trace ≡ trace) × Reaches types events x e)) events (λ x inside. (
      (λ passes.
          let parts = and_parts (x.id.trace == trace) (nat_le x.id.number n) passes in
          let on = eqb-true x.id.trace trace parts.0 in
          (on, limit.to x inside on (leb-true x.id.number n parts.1))),
      (λ is. and_from (x.id.trace == trace) (nat_le x.id.number n) (eq-eqb x.id.trace trace is.0) (le-leb x.id.number n (limit.from x inside is.0 is.1))),
    ));
    number_is = count_within events (numbers) trace n limit.most;
  }
