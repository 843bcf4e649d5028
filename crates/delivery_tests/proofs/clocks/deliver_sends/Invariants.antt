use Rattle.std.proofs.Common.{◌≡◌, length}
use Rattle.delivery_tests.proofs.clocks.deliver_sends.Given as goal

-- the types and the number of traces stay
abbrev pub invariant-loop-before : goal.invariant-loop-before
invariant-loop-before l = record {
  types : l.plain.types ≡ l.initial.plain.types;
  traces : length l.flight.newest ≡ length l.initial.flight.newest;
}
