use Rattle.std.proofs.Common.{◌≡◌, ◌-◌, List, length, None, sym, ◌∙◌, ap, arith}
use Rattle.std.proofs.lemmas.Bool.{ltb-false}
use Rattle.std.proofs.lemmas.Option.{slice_get_past}
use Rattle.cluster_levels.specs.Clusters.{LevelClusters}
use Rattle.cluster_levels.specs.Levels.{ClusterLevels, clusters_at}
use Rattle.cluster_levels.proofs.LevelLemmas.{size_above}
use Rattle.cluster_levels.proofs.levels.Levels.cluster_size.Goals as goal

pub returns-in-None-clause-size : goal.returns-in-None-clause-size
returns-in-None-clause-size c =
    let past = ltb-false (c.args.level - 1) (length c.deref.result.now) (sym c.in-None.ensures.lookup.0) in
    let read = ap (λ (levels : List LevelClusters). length levels) c.deref.ensures.value in
    let seen = ap (λ (value : ClusterLevels). length value.levels) c.self.view_is in
    let none : clusters_at c.args.self.now c.args.level ≡ None = slice_get_past c.args.self.now.levels (c.args.level - 1) (omega (arith, past, read, seen)) in
    ap (λ (value : ClusterLevels). value.traces) c.self.view_is ∙ size_above c.args.self.now c.args.level c.args.p none
