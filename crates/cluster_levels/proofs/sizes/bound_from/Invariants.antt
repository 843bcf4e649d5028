use Rattle.std.proofs.Common.{◌≡◌, ◌≤◌, length, drop}
use Rattle.causal_base.specs.Clusters.{bound_of}
use Rattle.cluster_levels.proofs.sizes.bound_from.Given as goal

abbrev pub invariant-loop-left : goal.invariant-loop-left
invariant-loop-left l = record {
  within : l.left ≤ length l.sizes;
  so_far : l.bound ≡ bound_of (drop l.left l.sizes);
}

abbrev pub decreases-loop-left : goal.decreases-loop-left
decreases-loop-left l = l.left
