use Rattle.std.proofs.Common.{reverse, subst}
use Rattle.std.specs.Prelude.{◌↔◌, IfSome, IfNone, IsTrue}
use Rattle.causal_base.specs.Journal.{IsSettled}
use Rattle.causal_base.specs.Past.{HasNoNext, IsNext}
use Rattle.causal_base.specs.Types.{TypeTable}
use Rattle.event_book.specs.Desks.{DeskState}
use Rattle.event_book.specs.Stamping.{StampedState}
use Rattle.event_book.proofs.Desks.{settled_told}
use Rattle.event_book.proofs.desk.Desk.settled.Goals as goal

pub returns : goal.returns
returns c =
    let s = c.self.inside.deliverer in
    let some = subst (λ (v : StampedState). IfSome c.next_block.result (IsNext v.types (reverse v.journal))) c.stamped.ensures.value c.next_block.ensures.some in
    let none = subst (λ (v : StampedState). IfNone c.next_block.result (HasNoNext v.types (reverse v.journal))) c.stamped.ensures.value c.next_block.ensures.none in
    subst (λ (v : DeskState). (IsTrue c.is_none.result) ↔ (IsSettled v.setup.types v.journal)) c.self.view_is
    (subst (λ (t : TypeTable). (IsTrue c.is_none.result) ↔ (IsSettled t s.journal)) c.self.invariant.types_are
    (settled_told s.types s.journal c.next_block.result some none c.is_none.result c.is_none.ensures))
