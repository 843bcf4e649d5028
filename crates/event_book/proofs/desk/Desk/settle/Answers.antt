use Rattle.std.proofs.Common.{◌∙◌, ap, subst}
use Rattle.std.specs.Prelude.{OnOk}
use Rattle.causal_base.specs.Journal.{IsSettled}
use Rattle.causal_base.specs.Types.{TypeTable}
use Rattle.event_book.specs.Desks.{DeskState}
use Rattle.event_book.proofs.Desks.{desk_delivers}
use Rattle.event_book.proofs.desk.Desk.settle.Goals as goal

pub invariant_of-self : goal.invariant_of-self
invariant_of-self c = desk_delivers c.self.inside.setup.value c.self.inside.deliverer c.settle.new.self c.self.inside.ended c.self.invariant c.settle.ensures.types c.settle.ensures.clustering c.settle.ensures.delivers

pub returns-clause-settled : goal.returns-clause-settled
returns-clause-settled c =
    subst (λ (t : TypeTable). OnOk c.settle.result (IsSettled t c.settle.new.self.journal)) (c.self.invariant.types_are ∙ ap (λ (v : DeskState). v.setup.types) c.self.view_is) c.settle.ensures.settled
