use Rattle.std.proofs.Common.{◌≡◌, ◌≤◌, length}
use Rattle.trace_queue.specs.Held.{count_held}
use Rattle.journal.specs.Places.{HasSamePlaces}
use Rattle.journal.proofs.index.catch_up_each.Given as goal

abbrev pub invariant-loop-trace : goal.invariant-loop-trace
invariant-loop-trace l = record {
  same : HasSamePlaces (record { in_order = l.initial.in_order.items; early = l.initial.early }) (record { in_order = l.in_order.items; early = l.early });
  held : count_held l.early ≤ count_held l.initial.early;
  queues : length l.early ≡ length l.initial.early;
}
