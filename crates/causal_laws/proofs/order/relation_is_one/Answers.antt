-- Which of the two reaches the other decides.
use Rattle.std.specs.Prelude.{reverse}
use Rattle.causal_base.specs.Journal.{deliveries_by}
use Rattle.causal_base.proofs.CallerLemmas.{causal}
use Rattle.causal_laws.proofs.Orders.{is_related, related_in_one_way}
use Rattle.causal_laws.proofs.order.relation_is_one.Goals as goal

pub returns-clause-one : goal.returns-clause-one
returns-clause-one c types journal legal a b in_a in_b = is_related types (deliveries_by journal) (causal types (reverse journal) legal) a b in_a in_b

pub returns-clause-only : goal.returns-clause-only
returns-clause-only c types journal legal a b in_a in_b related other one also =
    related_in_one_way types (deliveries_by journal) (causal types (reverse journal) legal) a b in_a in_b related other one also
