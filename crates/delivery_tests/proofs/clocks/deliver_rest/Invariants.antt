use Rattle.std.proofs.Common.{◌≡◌, length}
use Rattle.delivery_tests.proofs.clocks.deliver_rest.Given as goal

-- the types and the number of traces stay
abbrev pub invariant-loop-first : goal.invariant-loop-first
invariant-loop-first l = record {
  types : l.plain.types ≡ l.initial.plain.types;
  traces : length l.flight.newest ≡ length l.initial.flight.newest;
}
