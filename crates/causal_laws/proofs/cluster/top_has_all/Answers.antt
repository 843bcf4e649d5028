-- It has them from the start.
use Rattle.causal_laws.proofs.Partitions.{shared_above}
use Rattle.causal_laws.proofs.cluster.top_has_all.Goals as goal

pub returns : goal.returns
returns c clustering so_far level x y above = shared_above clustering so_far level x y above
