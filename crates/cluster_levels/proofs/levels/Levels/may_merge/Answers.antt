use Rattle.std.proofs.Common.{◌≡◌, ◌<◌, ◌-◌, ◌+◌, ◌∷◌, length, sym, ◌∙◌, subst, arith}
use Rattle.std.specs.Prelude.{nat_le}
use Rattle.causal_base.specs.Clusters.{may_merge}
use Rattle.cluster_levels.specs.Clusters.{joins_of}
use Rattle.cluster_levels.specs.Levels.{ClusterLevels, IsCounted, clustering_of, same_in}
use Rattle.cluster_levels.proofs.LevelLemmas.{asked, with_levels, may_not, may_when, enough_first, enough_tallied}
use Rattle.cluster_levels.proofs.levels.Levels.may_merge.Goals as goal

pub returns-else-size : goal.returns-else-size
returns-else-size c so_far is =
    let value = with_levels c.self.inside.traces c.self.inside.sizes c.self.inside.after c.self.inside.levels.items in
    let ask = asked value c.args.self.now c.args.level c.args.p c.args.q c.index-clusters.result.now c.self.view_is c.self.invariant c.requires.low c.requires.high c.requires.p c.requires.q c.requires.apart c.index-clusters.ensures in
    subst (λ (v : ClusterLevels). nat_le (c.size.result + c.size-2.result) c.size-3.result ≡ may_merge (clustering_of v) (same_in v) ((c.args.p, c.args.q) ∷ so_far) c.args.level c.args.p c.args.q) c.self.view_is
    (may_not value c.args.level c.args.p c.args.q c.index-clusters.result.now ask.at ask.long c.size.result c.size-2.result c.size-3.result c.size.ensures.size c.size-2.ensures.size c.size-3.ensures.number c.if-size.false so_far)

pub returns-then-self-le1 : goal.returns-then-self-le1
returns-then-self-le1 c so_far is =
    let value = with_levels c.self.inside.traces c.self.inside.sizes c.self.inside.after c.self.inside.levels.items in
    let ask = asked value c.args.self.now c.args.level c.args.p c.args.q c.index-clusters.result.now c.self.view_is c.self.invariant c.requires.low c.requires.high c.requires.p c.requires.q c.requires.apart c.index-clusters.ensures in
    subst (λ (v : ClusterLevels). nat_le c.self.inside.after 1 ≡ may_merge (clustering_of v) (same_in v) ((c.args.p, c.args.q) ∷ so_far) c.args.level c.args.p c.args.q) c.self.view_is
    (may_when value c.args.level c.args.p c.args.q c.index-clusters.result.now ask.at ask.long c.size.result c.size-2.result c.size-3.result c.size.ensures.size c.size-2.ensures.size c.size-3.ensures.number c.if-size.true so_far
    (nat_le c.self.inside.after 1) (enough_first c.self.inside.after (joins_of c.index-clusters.result.now so_far c.args.p c.args.q) c.if-self-le1.true))

pub returns-else-self-le1 : goal.returns-else-self-le1
returns-else-self-le1 c so_far is =
    let value = with_levels c.self.inside.traces c.self.inside.sizes c.self.inside.after c.self.inside.levels.items in
    let ask = asked value c.args.self.now c.args.level c.args.p c.args.q c.index-clusters.result.now c.self.view_is c.self.invariant c.requires.low c.requires.high c.requires.p c.requires.q c.requires.apart c.index-clusters.ensures in
    let was = subst (λ (v : ClusterLevels). IsCounted v so_far) (sym c.self.view_is) is in
    let says = was.tallied c.if-self-le1.false (c.args.level - 1) c.index-clusters.result.now ask.at in
    let p_in : c.args.p < length c.index-clusters.result.now.labels = omega (arith, ask.p_in, ask.long) in
    let q_in : c.args.q < length c.index-clusters.result.now.labels = omega (arith, ask.q_in, ask.long) in
    let told = c.tally.ensures ∙ says.tallied c.args.p c.args.q p_in q_in ask.away in
    subst (λ (v : ClusterLevels). nat_le (c.self.inside.after - 1) c.tally.result ≡ may_merge (clustering_of v) (same_in v) ((c.args.p, c.args.q) ∷ so_far) c.args.level c.args.p c.args.q) c.self.view_is
    (may_when value c.args.level c.args.p c.args.q c.index-clusters.result.now ask.at ask.long c.size.result c.size-2.result c.size-3.result c.size.ensures.size c.size-2.ensures.size c.size-3.ensures.number c.if-size.true so_far
    (nat_le (c.self.inside.after - 1) c.tally.result) (enough_tallied c.self.inside.after (joins_of c.index-clusters.result.now so_far c.args.p c.args.q) c.tally.result c.if-self-le1.false (omega arith) told))
