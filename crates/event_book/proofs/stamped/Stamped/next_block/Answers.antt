use Rattle.std.proofs.Common.{reverse, subst}
use Rattle.std.specs.Prelude.{IfNone}
use Rattle.causal_base.specs.Past.{HasNoNext}
use Rattle.event_book.specs.Stamping.{StampedState}
use Rattle.event_book.proofs.stamped.Stamped.next_block.Goals as goal

pub returns-clause-none : goal.returns-clause-none
returns-clause-none c = subst (λ (v : StampedState). IfNone c.next_block.result (HasNoNext v.types (reverse v.journal))) c.self.view_is c.next_block.ensures.none
