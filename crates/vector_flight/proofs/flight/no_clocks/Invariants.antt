use Rattle.std.proofs.Common.{◌≡◌, vec_capacity, replicate}
use Rattle.vector_flight.proofs.flight.no_clocks.Given as goal

-- so many clocks were made, and there is room for the rest
abbrev pub invariant-loop : goal.invariant-loop
invariant-loop l = record {
  clocks : l.clocks.items ≡ replicate l.counter (replicate l.traces 0);
  room : vec_capacity l.clocks ≡ l.traces;
}
