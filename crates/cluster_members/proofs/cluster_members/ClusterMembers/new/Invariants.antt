use Rattle.std.proofs.Common.{◌≡◌, None, replicate}
use Rattle.cluster_members.proofs.cluster_members.ClusterMembers.new.Given as goal

abbrev pub invariant-loop : goal.invariant-loop
invariant-loop l = l.kept.items ≡ replicate l.counter (replicate l.levels.traces None)
