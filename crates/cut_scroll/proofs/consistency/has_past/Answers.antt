use Rattle.std.proofs.Common.{◌≡◌, Bool, true, false, refl, rules}
use Rattle.std.proofs.lemmas.Bool.{OnFalse_at, OnTrue_at}
use Rattle.std.specs.Bool.{OnTrue, OnFalse}
use Rattle.cut_scroll.proofs.WholeTraces.{past_by_clock}
use Rattle.cut_scroll.proofs.consistency.has_past.Goals as goal

-- what holds where the answer is yes, since the other can't be
told : {P Q : Type 0} (answer : Bool) → OnTrue answer P → OnFalse answer Q → (Q → ⊥) → P
told {P} answer holds fails never = elim answer as (λ b. answer ≡ b → P) [
  | true ↦ λ is. OnTrue_at is holds
  | false ↦ λ is. absurd (never (OnFalse_at is fails))
] refl

pub returns : goal.returns
returns g c journal stands =
    let types = g.C.Causal.types c.args.book.now in
    let legal = g.C.Causal.legal c.args.book.now journal stands in
    let clocks = told c.clock-is_delivered.result c.clock-is_delivered.ensures.delivered c.clock-is_delivered.ensures.absent (λ none. none journal stands (c.requires.delivered journal stands)) journal stands in
    let past = past_by_clock types journal legal c.args.counts.now c.requires.length c.args.e c.clock-is_delivered.new.into (search rules) clocks in (
      (λ yes. past.0 (c.are_within.ensures.0 yes)),
      (λ all. c.are_within.ensures.1 (past.1 all)),
    )
