use Rattle.causal_base.specs.Journal.{deliveries_by}
use Rattle.causal_laws.proofs.StampLaws.{stamp_once}
use Rattle.causal_laws.proofs.stamp.stamp_is_one.Goals as goal

pub returns : goal.returns
returns c types clustering journal e stamp other one also = stamp_once types clustering (deliveries_by journal) e stamp other one also
