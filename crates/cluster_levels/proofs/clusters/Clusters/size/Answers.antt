use Rattle.std.proofs.Common.{◌<◌, length, ap, arith}
use Rattle.cluster_levels.specs.Clusters.{LevelClusters}
use Rattle.cluster_levels.proofs.LabelLemmas.{size_few}
use Rattle.cluster_levels.proofs.clusters.Clusters.size.Goals as goal

pub returns-clause-few : goal.returns-clause-few
returns-clause-few c =
    let long = ap (λ (clusters : LevelClusters). length clusters.labels) c.self.view_is in
    let within : c.args.trace < length c.self.inside.labels.items = omega (arith, c.requires, long) in
    size_few c.self.inside.labels.items c.self.inside.sizes.items c.self.inside.tallies.width c.args.trace c.index.result.now c.index-2.result.now c.self.invariant within c.index.ensures c.index-2.ensures
