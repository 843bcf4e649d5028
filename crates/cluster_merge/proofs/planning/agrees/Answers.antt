use Rattle.std.proofs.Common.{sym, ◌∙◌}
use Rattle.causal_base.specs.Clusters.{partition}
use Rattle.cluster_levels.specs.Levels.{clustering_of}
use Rattle.cluster_merge.proofs.Joined.{may_stands}
use Rattle.cluster_merge.proofs.Reached.{or_first}
use Rattle.cluster_merge.proofs.planning.agrees.Goals as goal

pub returns-else-same : goal.returns-else-same
returns-else-same c so_far stands =
    let away = sym (stands.shared.shared c.args.level c.args.p c.args.q c.requires.low c.requires.p c.requires.q) ∙ (sym c.same.ensures ∙ c.if-same.false) in
    c.may_merge.ensures so_far stands.is_counted ∙ (may_stands c.args.levels.now so_far stands c.args.level c.args.p c.args.q c.requires.low c.requires.p c.requires.q
    ∙ sym (or_first (partition (clustering_of c.args.levels.now) so_far c.args.level c.args.p c.args.q) _ away))
