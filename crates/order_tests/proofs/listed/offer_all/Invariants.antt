use Rattle.std.proofs.Common.{◌≡◌}
use Rattle.order_tests.proofs.listed.offer_all.Given as goal

abbrev pub invariant-loop-id : goal.invariant-loop-id
invariant-loop-id l = l.plain.types ≡ l.types
