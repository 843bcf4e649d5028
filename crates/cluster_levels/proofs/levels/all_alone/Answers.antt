use Rattle.std.proofs.Common.{◌≡◌, ◌∷◌, [], ◌++◌, List, length, cond, sym, ap, subst, rules}
use Rattle.cluster_levels.specs.Clusters.{LevelClusters}
use Rattle.cluster_levels.specs.Levels.{AllAlone}
use Rattle.cluster_levels.proofs.LevelLemmas.{alone_none, alone_more}
use Rattle.cluster_levels.proofs.levels.all_alone.Goals as goal

pub loop-level-init : goal.loop-level-init
loop-level-init c = record {
  count = ap (λ (levels : List LevelClusters). length levels) c.in_ok-levels.ensures.items;
  alone = subst (λ (levels : List LevelClusters). AllAlone levels c.args.traces (cond c.args.tallied c.args.traces 0)) (sym c.in_ok-levels.ensures.items) (alone_none c.args.traces (cond c.args.tallied c.args.traces 0));
}

pub loop-level-preserved : goal.loop-level-preserved
loop-level-preserved c =
    let pushed : c.push.new.self.items ≡ c.loop-level.levels.items ++ c.in_ok-new.field-0 ∷ [] = search rules in
    let made = c.in_ok-new.ensures in
    record {
      count = search rules;
      alone = subst (λ (levels : List LevelClusters). AllAlone levels c.args.traces (cond c.args.tallied c.args.traces 0)) (sym pushed)
          (alone_more c.loop-level.levels.items c.args.traces (cond c.args.tallied c.args.traces 0) c.in_ok-new.field-0 c.loop-level.invariant.alone made.traces made.alone made.width made.none);
    }
