use Rattle.std.proofs.Common.{◌≡◌, ◌<◌, ℕ, length, get_or}
use Rattle.cluster_levels.proofs.clusters.own_labels.Given as goal

abbrev pub invariant-loop-trace : goal.invariant-loop-trace
invariant-loop-trace l = record {
  count : length l.labels.items ≡ l.trace;
  own : (trace : ℕ) → trace < l.trace → get_or l.labels.items trace 0 ≡ trace;
}
