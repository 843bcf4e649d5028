use Rattle.std.proofs.Common.{◌≡◌, length, reverse, sym, ap, subst, arith}
use Rattle.causal_base.specs.declared.refusal.Refusal.TheVariants.{Clash, Oom}
use Rattle.causal_base.specs.Past.{came, HasEvent}
use Rattle.delivery.specs.Deliveries.{TypedJournal}
use Rattle.delivery.proofs.Ends.{delivery_either, on_ok, refused_so}
use Rattle.delivery.proofs.delivery.Delivery.accept.Goals as goal

pub invariant_of-self : goal.invariant_of-self
invariant_of-self c =
    delivery_either c.self.inside.types c.self.inside.journal c.self.inside.waiting c.self.inside.ready c.self.inside.ended c.self.invariant c.self.told c.args.collector c.args.event c.accept_new.new.waiting c.accept_new.new.ready c.accept_new.new.journal c.accept_new.result c.accept_new.ensures.ok c.accept_new.ensures.err c.accept_new.ensures.parts

pub returns-clause-clash : goal.returns-clause-clash
returns-clause-clash c = (
  (λ is. let clash : Clash ≡ Oom = refused_so (c.accept_new.new.journal ≡ c.self.inside.journal) c.accept_new.result c.accept_new.ensures.err Clash is in absurd cc),
  (λ both. absurd (c.in_default.ensures.none (subst (λ (v : TypedJournal). HasEvent (came (reverse v.journal)) c.args.event.id) (sym c.self.view_is) both.0))),
)

pub returns-clause-new : goal.returns-clause-new
returns-clause-new c =
    on_ok c.accept_new.result (
      (λ has. c.in_default.ensures.none (subst (λ (v : TypedJournal). HasEvent (came (reverse v.journal)) c.args.event.id) (sym c.self.view_is) has)),
      (let view = ap (λ (v : TypedJournal). length (came (reverse v.journal))) c.self.view_is in omega (arith, view, c.accepted.ensures.number, c.accepted.ensures.few, c.if-accepted-eq-MOST_EVENTS.false)),
    )
