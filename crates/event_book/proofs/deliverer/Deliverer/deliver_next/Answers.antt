use Rattle.std.proofs.Common.{reverse, subst}
use Rattle.causal_base.specs.Past.{HasNoNext}
use Rattle.event_book.specs.Stamping.{StampedState}
use Rattle.event_book.proofs.deliverer.Deliverer.deliver_next.Goals as goal

pub returns-in_default-clause-none : goal.returns-in_default-clause-none
returns-in_default-clause-none c = subst (λ (v : StampedState). HasNoNext v.types (reverse v.journal)) c.self.view_is c.in_default.ensures.none
