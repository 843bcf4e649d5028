use Rattle.std.proofs.Common.{reverse, sym, subst}
use Rattle.causal_base.specs.declared.block.Block.TheVariants.{One, Two}
use Rattle.causal_base.specs.Past.{IsNext}
use Rattle.delivery.specs.Deliveries.{TypedJournal}
use Rattle.delivery.proofs.Ends.{delivery_gone, delivery_pair, room_one, room_two}
use Rattle.delivery.proofs.delivery.Delivery.deliver_block.Goals as goal

pub deliver_one-requires-clause-room : goal.deliver_one-requires-clause-room
deliver_one-requires-clause-room c =
    let next = subst (λ (v : TypedJournal). IsNext v.types (reverse v.journal) (One c.in-One.id)) (sym c.self.view_is) (subst (IsNext c.args.self.now.types (reverse c.args.self.now.journal)) c.in-One.is c.requires) in
    room_one c.self.inside.types c.self.inside.journal c.self.inside.waiting c.self.inside.ready c.self.inside.ended c.self.invariant c.self.told c.in-One.id next.enabled

pub invariant_of-self : goal.invariant_of-self
invariant_of-self c =
    let next = subst (λ (v : TypedJournal). IsNext v.types (reverse v.journal) (One c.in-One.id)) (sym c.self.view_is) (subst (IsNext c.args.self.now.types (reverse c.args.self.now.journal)) c.in-One.is c.requires) in
    delivery_gone c.self.inside.types c.self.inside.journal c.self.inside.waiting c.self.inside.ready c.self.inside.ended c.self.invariant c.self.told c.in-One.id next.enabled c.deliver_one.new.waiting c.deliver_one.new.ready c.deliver_one.new.journal c.deliver_one.ensures.delivered c.deliver_one.ensures.parts

pub deliver_two-requires-clause-room : goal.deliver_two-requires-clause-room
deliver_two-requires-clause-room c =
    let next = subst (λ (v : TypedJournal). IsNext v.types (reverse v.journal) (Two c.in-Two.first c.in-Two.second)) (sym c.self.view_is) (subst (IsNext c.args.self.now.types (reverse c.args.self.now.journal)) c.in-Two.is c.requires) in
    room_two c.self.inside.types c.self.inside.journal c.self.inside.waiting c.self.inside.ready c.self.inside.ended c.self.invariant c.self.told c.in-Two.first c.in-Two.second next.enabled

pub invariant_of-self-in-Two : goal.invariant_of-self-in-Two
invariant_of-self-in-Two c =
    let next = subst (λ (v : TypedJournal). IsNext v.types (reverse v.journal) (Two c.in-Two.first c.in-Two.second)) (sym c.self.view_is) (subst (IsNext c.args.self.now.types (reverse c.args.self.now.journal)) c.in-Two.is c.requires) in
    delivery_pair c.self.inside.types c.self.inside.journal c.self.inside.waiting c.self.inside.ready c.self.inside.ended c.self.invariant c.self.told c.in-Two.first c.in-Two.second next.enabled c.deliver_two.new.waiting c.deliver_two.new.ready c.deliver_two.new.journal c.deliver_two.ensures.delivered c.deliver_two.ensures.parts
