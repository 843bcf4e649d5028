-- So many events are left to be made, and the rest of the list is what the steps from here add.
use Rattle.std.proofs.Common.{◌≡◌, ◌+◌, ◌≤◌, ℕ, length}
use Rattle.workload.specs.Workload.{made, workload}
use Rattle.workload.proofs.workload.Workload.make.Given as goal

abbrev pub invariant-loop-left : goal.invariant-loop-left
invariant-loop-left l = record {
  x : l.x ≤ 65536;
  left : l.left + length l.workload.events.items ≡ l.n;
  traces : length l.workload.counts.items ≡ l.traces;
  list : (steps : ℕ) → l.left ≤ steps → made steps l.n l.traces l.workload.events.items l.x ≡ workload l.n l.start l.traces;
}

abbrev pub decreases-loop-left : goal.decreases-loop-left
decreases-loop-left l = l.left
