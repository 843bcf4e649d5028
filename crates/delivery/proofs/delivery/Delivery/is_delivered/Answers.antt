use Rattle.std.proofs.Common.{◌<◌, ◌↔◌, reverse, subst, arith}
use Rattle.std.specs.Prelude.{IsTrue, nat_le}
use Rattle.causal_base.specs.declared.event_id.EventId.{EventId}
use Rattle.causal_base.specs.Past.{came, deliveries, delivered, HasEvent}
use Rattle.delivery.specs.Deliveries.{TypedJournal}
use Rattle.delivery.proofs.Waits.{is_gone}
use Rattle.delivery.proofs.delivery.Delivery.is_delivered.Goals as goal

pub delivered_on-requires : goal.delivered_on-requires
delivered_on-requires c =
    let e = c.in-Some.field-0.now in
    let range = (c.self.invariant.parts.history.fit e c.in-Some.ensures.some.0).id.trace in
    let below = subst (λ (i : EventId). i.trace < c.self.inside.types.traces) c.in-Some.ensures.some.1 range in
    omega (arith, below, c.self.invariant.parts.table.most_traces)

pub returns-in-Some : goal.returns-in-Some
returns-in-Some c =
    let past = reverse c.self.inside.journal in
    subst (λ (v : TypedJournal). IsTrue (nat_le c.args.id.number c.delivered_on.result) ↔ HasEvent (delivered (reverse v.journal)) c.args.id) c.self.view_is
    (is_gone c.self.inside.types (came past) (deliveries past) c.self.invariant.parts.history c.args.id c.in-Some.field-0.now c.in-Some.ensures.some.0 c.in-Some.ensures.some.1 c.delivered_on.result c.delivered_on.ensures)
