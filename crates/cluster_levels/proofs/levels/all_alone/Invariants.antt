use Rattle.std.proofs.Common.{◌≡◌, length, cond}
use Rattle.cluster_levels.specs.Levels.{AllAlone}
use Rattle.cluster_levels.proofs.levels.all_alone.Given as goal

abbrev pub invariant-loop-level : goal.invariant-loop-level
invariant-loop-level l = record {
  count : length l.levels.items ≡ l._level;
  alone : AllAlone l.levels.items l.traces (cond l.tallied l.traces 0);
}
