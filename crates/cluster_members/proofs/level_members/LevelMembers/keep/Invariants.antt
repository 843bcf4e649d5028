use Rattle.cluster_members.proofs.KeptLists.{AreTakenUpTo}
use Rattle.cluster_members.proofs.level_members.LevelMembers.keep.Given as goal

abbrev pub invariant-loop-trace : goal.invariant-loop-trace
invariant-loop-trace l = AreTakenUpTo l.initial.self-inside.lists.items l.self-inside.lists.items l.list l.trace-index
