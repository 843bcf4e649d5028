-- The three laws of an equivalence are lemmas of the partition.
use Rattle.causal_laws.proofs.Partitions.{shares_itself, shared_swapped, shared_on}
use Rattle.causal_laws.proofs.cluster.clusters_part_traces.Goals as goal

pub returns : goal.returns
returns c clustering so_far level x y z =
    (shares_itself clustering so_far level x, shared_swapped clustering so_far level x y, shared_on clustering so_far level x y z)
