use Rattle.std.proofs.Common.{◌≡◌, ◌++◌, take, vec_capacity}
use Rattle.projected_stamp.specs.Parts.{numbers_for}
use Rattle.projected_stamp.proofs.numbers.push_each.Given as goal

abbrev pub invariant-loop-trace : goal.invariant-loop-trace
invariant-loop-trace l = record {
  items : l.numbers.items ≡ l.initial.numbers.items ++ numbers_for l.clock (take l.trace-index l.traces);
  room : vec_capacity l.numbers ≡ vec_capacity l.initial.numbers;
}
