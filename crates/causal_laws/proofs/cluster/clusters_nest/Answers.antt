-- A merge at a level is one at the next level up.
use Rattle.causal_laws.proofs.Partitions.{shared_up_to}
use Rattle.std.proofs.Common.{◌+◌, arith}
use Rattle.causal_laws.proofs.cluster.clusters_nest.Goals as goal

pub returns : goal.returns
returns c clustering so_far level x y shared = shared_up_to clustering so_far level (level + 1) x y (omega arith) shared
