use Rattle.std.proofs.Common.{sym, subst}
use Rattle.std.specs.Prelude.{Contains}
use Rattle.delivery.proofs.looking.wake.Goals as goal

pub returns-clause-found : goal.returns-clause-found
returns-clause-found c block trace enabled has inside =
    c.look_at_each.ensures.found block trace enabled has (subst (λ ts. Contains ts trace) (sym c.woken-traces.ensures) inside)
