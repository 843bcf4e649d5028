use Rattle.std.proofs.Common.{◌≡◌, ◌<◌, ◌≤◌, ℕ, get_or, cond}
use Rattle.std.specs.Prelude.{◌==◌}
use Rattle.cluster_levels.proofs.clusters.relabel.Given as goal

abbrev pub invariant-loop-label : goal.invariant-loop-label
invariant-loop-label l = record {
  done : (trace : ℕ) → trace < l.label-index → get_or l.labels trace 0 ≡ cond (get_or l.initial.labels trace 0 == l.gone) l.kept (get_or l.initial.labels trace 0);
  left : (trace : ℕ) → l.label-index ≤ trace → get_or l.labels trace 0 ≡ get_or l.initial.labels trace 0;
}
