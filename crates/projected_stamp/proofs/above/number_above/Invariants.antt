use Rattle.std.proofs.Common.{◌≡◌, ◌≤◌}
use Rattle.shared_list.specs.Traces.{list_of}
use Rattle.projected_stamp.specs.Above.{last_above, levels_of}
use Rattle.projected_stamp.proofs.above.number_above.Given as goal

-- What is sought behind the number so far is what was sought.
abbrev pub invariant-loop-number : goal.invariant-loop-number
invariant-loop-number l = record {
  within : l.number ≤ l.upto;
  same : last_above (levels_of (list_of l.kept.lists l.trace)) l.level l.number ≡ last_above (levels_of (list_of l.kept.lists l.trace)) l.level l.upto;
}

abbrev pub decreases-loop-number : goal.decreases-loop-number
decreases-loop-number l = l.number
