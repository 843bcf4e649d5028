use Rattle.std.proofs.Common.{◌≡◌, None, replicate}
use Rattle.cluster_members.proofs.level_members.LevelMembers.new.Given as goal

abbrev pub invariant-loop : goal.invariant-loop
invariant-loop l = l.lists.items ≡ replicate l.counter None
