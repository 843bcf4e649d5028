-- A merge keeps what is shared.
use Rattle.causal_laws.proofs.Partitions.{shared_grows_on}
use Rattle.causal_laws.proofs.cluster.clusters_grow.Goals as goal

pub returns : goal.returns
returns c clustering newer so_far level x y shared = shared_grows_on clustering newer so_far level x y shared
