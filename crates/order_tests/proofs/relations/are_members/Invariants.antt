use Rattle.std.proofs.Common.{◌<◌, ◌+◌, ℕ}
use Rattle.std.specs.Prelude.{slice_index}
use Rattle.order_tests.proofs.relations.are_members.Given as goal

-- Those before this one rise, and are traces.
abbrev pub invariant-loop-member : goal.invariant-loop-member
invariant-loop-member l = record {
  least : (k : ℕ) → k < l.member-index → slice_index l.members k < l.least;
  rise : (k : ℕ) → k + 1 < l.member-index → slice_index l.members k < slice_index l.members (k + 1);
  below : (k : ℕ) → k < l.member-index → slice_index l.members k < l.traces;
}
