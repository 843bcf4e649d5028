use Rattle.std.proofs.Common.{◌≡◌, length}
use Rattle.poet_top.proofs.Waiting.{HasTakenWaiting}
use Rattle.poet_top.proofs.taking.offer_waiting.Given as goal

abbrev pub invariant-loop-batch : goal.invariant-loop-batch
invariant-loop-batch l = record {
  types : l.plain.types ≡ l.fn.plain.types;
  now : HasTakenWaiting l.fn.reader l.reader l.fn.plain.types l.fn.plain.journal l.plain.journal;
}

abbrev pub decreases-loop-batch : goal.decreases-loop-batch
decreases-loop-batch l = length l.reader.waiting
