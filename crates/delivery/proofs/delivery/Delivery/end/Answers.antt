use Rattle.std.proofs.Common.{reverse, sym, subst}
use Rattle.causal_base.specs.Past.{HasEnded}
use Rattle.delivery.specs.Deliveries.{TypedJournal}
use Rattle.delivery.proofs.Ends.{delivery_ended, room_ended}
use Rattle.delivery.proofs.delivery.Delivery.end.Goals as goal

pub push_ended-requires : goal.push_ended-requires
push_ended-requires c =
    room_ended c.self.inside.types c.self.inside.journal c.self.inside.waiting c.self.inside.ready c.self.inside.ended c.self.invariant c.self.told c.args.collector c.requires.collector
    (subst (λ (v : TypedJournal). HasEnded (reverse v.journal) c.args.collector → ⊥) (sym c.self.view_is) c.requires.open)

pub invariant_of-self : goal.invariant_of-self
invariant_of-self c =
    delivery_ended c.self.inside.types c.self.inside.journal c.self.inside.waiting c.self.inside.ready c.self.inside.ended c.self.invariant c.self.told c.args.collector c.requires.collector
    (subst (λ (v : TypedJournal). HasEnded (reverse v.journal) c.args.collector → ⊥) (sym c.self.view_is) c.requires.open) c.push_ended.new.self c.push_ended.ensures
