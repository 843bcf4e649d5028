-- What an event is before doesn't reach it.
use Rattle.std.specs.Prelude.{reverse}
use Rattle.causal_base.specs.Journal.{deliveries_by}
use Rattle.causal_base.proofs.CallerLemmas.{causal}
use Rattle.causal_laws.proofs.Orders.{before_goes_on}
use Rattle.causal_laws.proofs.order.before_is_strict.Goals as goal

pub returns-clause-not_itself : goal.returns-clause-not_itself
returns-clause-not_itself c types journal legal e before = before.different (λ i. e)

pub returns-clause-goes_on : goal.returns-clause-goes_on
returns-clause-goes_on c types journal legal x y z there one other =
    before_goes_on types (deliveries_by journal) (causal types (reverse journal) legal) x y z there one other
