use Rattle.std.proofs.Common.{List, ◌++◌, reverse, refl, sym, ◌∙◌, ap, subst, append-nil}
use Rattle.std.specs.Prelude.{Option, IfSome, IfNone}
use Rattle.causal_base.specs.declared.block.Block.{Block}
use Rattle.causal_base.specs.declared.entry.Entry.{Entry}
use Rattle.causal_base.specs.Journal.{IsLegal}
use Rattle.causal_base.specs.Past.{HasNoNext, IsNext}
use Rattle.causal_base.specs.Types.{TypeTable}
use Rattle.event_book.specs.Delivering.{entries_of}
use Rattle.event_book.specs.Feeding.{Delivers}
use Rattle.event_book.proofs.Settling.{delivers_none, delivers_next, delivers_on, fewer_left, is_absent, is_there}
use Rattle.event_book.proofs.deliverer.Deliverer.settle.Goals as goal

pub loop-init : goal.loop-init
loop-init c = record { types = refl; clustering = refl; delivers = delivers_none c.args.self.now.types c.args.self.now.journal c.stamped-stamped.ensures.stamped.legal }

pub loop-smaller : goal.loop-smaller
loop-smaller c =
    let before = c.loop.self in
    let went = is_there c.in_ok-deliver_next.field-0 (sym c.is_some.ensures ∙ c.if-is_some.true) in
    let next = subst (λ (r : Option Block). IfSome r (IsNext before.types (reverse before.journal))) went.1 c.in_ok-deliver_next.ensures.some in
    let legal = subst (λ (t : TypeTable). IsLegal t before.journal) (sym c.loop.invariant.types) c.loop.invariant.delivers.legal in
    fewer_left before.types before.journal c.deliver_next.new.self.journal went.0 legal next (c.in_ok-deliver_next.ensures.delivered.journal ∙ ap (λ (r : Option Block). before.journal ++ entries_of r) went.1)

pub loop-preserved : goal.loop-preserved
loop-preserved c =
    let before = c.loop.self in
    let on = c.in_ok-deliver_next.ensures.delivered in
    let went = is_there c.in_ok-deliver_next.field-0 (sym c.is_some.ensures ∙ c.if-is_some.true) in
    let next = subst (λ (r : Option Block). IfSome r (IsNext before.types (reverse before.journal))) went.1 c.in_ok-deliver_next.ensures.some in
    let legal = subst (λ (t : TypeTable). IsLegal t before.journal) (sym c.loop.invariant.types) c.loop.invariant.delivers.legal in
    let more = delivers_next before.types before.journal went.0 legal next in
    record {
      types = on.types ∙ c.loop.invariant.types;
      clustering = on.clustering ∙ c.loop.invariant.clustering;
      delivers = delivers_on c.args.self.now.types c.args.self.now.journal before.journal c.deliver_next.new.self.journal c.loop.invariant.delivers
          (subst (λ (t : TypeTable). Delivers t before.journal c.deliver_next.new.self.journal) c.loop.invariant.types
          (subst (λ (l : List Entry). Delivers before.types before.journal l) (sym (on.journal ∙ ap (λ (r : Option Block). before.journal ++ entries_of r) went.1)) more));
    }

pub returns-clause-settled : goal.returns-clause-settled
returns-clause-settled c =
    let before = c.loop.self in
    let none = is_absent c.in_ok-deliver_next.field-0 (sym c.is_some.ensures ∙ c.if-is_some.false) in
    let settled = subst (λ (r : Option Block). IfNone r (HasNoNext before.types (reverse before.journal))) none c.in_ok-deliver_next.ensures.none in
    let same = c.in_ok-deliver_next.ensures.delivered.journal ∙ (ap (λ (r : Option Block). before.journal ++ entries_of r) none ∙ append-nil before.journal) in
    subst (λ (l : List Entry). HasNoNext c.args.self.now.types (reverse l)) (sym same) (subst (λ (t : TypeTable). HasNoNext t (reverse before.journal)) c.loop.invariant.types settled)
