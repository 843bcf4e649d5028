use Rattle.std.proofs.Common.{◌≡◌, ◌||◌}
use Rattle.cluster_levels.specs.Levels.{same_in}
use Rattle.cluster_members.specs.Kept.{traces_that}
use Rattle.cluster_members.proofs.cluster_members.either_cluster.Given as goal

abbrev pub invariant-loop-trace : goal.invariant-loop-trace
invariant-loop-trace l = l.traces.items ≡ traces_that (λ trace. same_in l.levels l.level l.p trace || same_in l.levels l.level l.q trace) l.trace
