use Rattle.cluster_levels.proofs.TallyLines.{IsAddedUpTo}
use Rattle.cluster_levels.proofs.tallies.Tallies.add_line.Given as goal

abbrev pub invariant-loop-other : goal.invariant-loop-other
invariant-loop-other l = IsAddedUpTo l.initial.self l.self l.to l.from l.other
