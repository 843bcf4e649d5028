use Rattle.causal_base.specs.Clusters.{communications}
use Rattle.causal_base.specs.Journal.{deliveries_by}
use Rattle.causal_base.specs.Stamps.{history_of, level_of}
use Rattle.causal_laws.proofs.Partitions.{shares_itself}
use Rattle.causal_laws.proofs.stamp.own_trace_is_member.Goals as goal

pub returns : goal.returns
returns c clustering journal e = shares_itself clustering (communications (history_of e.id (deliveries_by journal))) (level_of clustering (deliveries_by journal) e.id) e.id.trace
