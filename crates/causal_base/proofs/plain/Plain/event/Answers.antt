use Rattle.std.proofs.Common.{◌≤◌, ◌<◌, reverse, subst, arith}
use Rattle.std.specs.Prelude.{Contains}
use Rattle.causal_base.specs.History.{count_on}
use Rattle.causal_base.specs.Past.{delivered, HasEvent}
use Rattle.causal_base.specs.Journal.{delivered_by}
use Rattle.causal_base.specs.PlainList.{TypedJournal}
use Rattle.causal_base.proofs.Answering.{came_trace, event_delivered, not_delivered, none_delivered}
use Rattle.causal_base.proofs.plain.Plain.event.Goals as goal

pub delivered_on-requires : goal.delivered_on-requires
delivered_on-requires c =
    came_trace c.self.inside.types c.self.inside.journal c.self.invariant.0 c.args.id c.in-Some.event.now c.in-Some.ensures.some.0 c.in-Some.ensures.some.1

pub returns-then-id-delivered_on-clause-some : goal.returns-then-id-delivered_on-clause-some
returns-then-id-delivered_on-clause-some c =
    let p = c.self.inside in
    let e = c.in-Some.event.now in
    let most : c.args.id.number ≤ count_on c.args.id.trace (delivered (reverse p.journal)) = omega (arith, c.if-id-delivered_on.true, c.delivered_on.ensures) in (
      subst (λ (v : TypedJournal). Contains (delivered_by v.journal) e) c.self.view_is
          (event_delivered p.types p.journal c.self.invariant.0 c.args.id e c.in-Some.ensures.some.0 c.in-Some.ensures.some.1 most),
      c.in-Some.ensures.some.1,
    )

pub returns-else-id-delivered_on-clause-none : goal.returns-else-id-delivered_on-clause-none
returns-else-id-delivered_on-clause-none c =
    let p = c.self.inside in
    let above : count_on c.args.id.trace (delivered (reverse p.journal)) < c.args.id.number = omega (arith, c.if-id-delivered_on.false, c.delivered_on.ensures) in
    subst (λ (v : TypedJournal). HasEvent (delivered_by v.journal) c.args.id → ⊥) c.self.view_is
    (not_delivered p.types p.journal c.self.invariant.0 c.args.id above)

pub returns-in-None-clause-none : goal.returns-in-None-clause-none
returns-in-None-clause-none c =
    let p = c.self.inside in
    subst (λ (v : TypedJournal). HasEvent (delivered_by v.journal) c.args.id → ⊥) c.self.view_is
    (none_delivered p.types p.journal c.self.invariant.0 c.args.id c.in-None.ensures.none)
