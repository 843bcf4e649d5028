use Rattle.std.proofs.Common.{◌≡◌, length}
use Rattle.std.specs.Prelude.{reverse}
use Rattle.causal_base.specs.Past.{HasEnded}
use Rattle.poet_serve.proofs.Waiting.{HasFedWaiting}
use Rattle.poet_serve.proofs.collecting.feed_waiting.Given as goal

-- batches that waited were fed
abbrev pub invariant-loop-batch : goal.invariant-loop-batch
invariant-loop-batch l = record {
  setup : l.desk.setup ≡ l.fn.desk.setup;
  still : HasEnded (reverse l.desk.journal) l.collector → ⊥;
  now : HasFedWaiting l.fn.reader l.reader l.fn.desk.setup.types l.collector l.fn.desk.journal l.desk.journal l.fn.tally l.tally;
}

abbrev pub decreases-loop-batch : goal.decreases-loop-batch
decreases-loop-batch l = length l.reader.waiting
