use Rattle.std.proofs.Common.{◌≡◌, [], map}
use Rattle.std.specs.Prelude.{vec_capacity, replicate}
use Rattle.trace_queue.proofs.queues.no_values.Given as goal

abbrev pub invariant-loop : goal.invariant-loop
invariant-loop g l = record {
  items : map (λ queue. queue.entries) l.queues.items ≡ replicate l.counter [];
  room : vec_capacity l.queues ≡ l.traces;
}
