use Rattle.std.proofs.Common.{◌-◌, set, refl, sym, subst}
use Rattle.cluster_levels.specs.Levels.{ClusterLevels, HasPartition, IsCounted, joined_at, same_in}
use Rattle.cluster_levels.proofs.LevelLemmas.{asked, with_levels, next_shared, merged_levels, merged_partition, merged_counted}
use Rattle.cluster_levels.proofs.levels.Levels.merge.Goals as goal

pub invariant_of-self : goal.invariant_of-self
invariant_of-self c =
    let levels = c.self.inside.levels.items in
    let value = with_levels c.self.inside.traces c.self.inside.sizes c.self.inside.after levels in
    let ask = asked value c.args.self.now c.args.level c.args.p c.args.q c.index_mut-clusters.result.now c.self.view_is c.self.invariant c.requires.low c.requires.high c.requires.p c.requires.q c.requires.apart c.index_mut-clusters.ensures.value in
    merged_levels c.self.inside.traces c.self.inside.sizes c.self.inside.after levels (c.args.level - 1) c.args.p c.args.q c.index_mut-clusters.result.now c.merge.new.self ask.at c.self.invariant ask.p_in ask.q_in ask.away c.merge.ensures.joined
    (next_shared value c.args.self.now c.args.level c.args.p c.args.q c.self.view_is c.requires.low c.requires.next)

pub returns-clause-partition : goal.returns-clause-partition
returns-clause-partition c =
    let levels = c.self.inside.levels.items in
    let value = with_levels c.self.inside.traces c.self.inside.sizes c.self.inside.after levels in
    let ask = asked value c.args.self.now c.args.level c.args.p c.args.q c.index_mut-clusters.result.now c.self.view_is c.self.invariant c.requires.low c.requires.high c.requires.p c.requires.q c.requires.apart c.index_mut-clusters.ensures.value in
    subst (λ (v : ClusterLevels). HasPartition (with_levels c.self.inside.traces c.self.inside.sizes c.self.inside.after (set levels (c.args.level - 1) c.merge.new.self)) (joined_at (same_in v) c.args.level c.args.p c.args.q)) c.self.view_is
    (merged_partition c.self.inside.traces c.self.inside.sizes c.self.inside.after levels (c.args.level - 1) c.args.p c.args.q c.index_mut-clusters.result.now c.merge.new.self ask.at c.self.invariant ask.p_in ask.q_in ask.away c.merge.ensures.joined
    c.args.level c.requires.low refl)

pub returns-clause-counted : goal.returns-clause-counted
returns-clause-counted c so_far is =
    let levels = c.self.inside.levels.items in
    let value = with_levels c.self.inside.traces c.self.inside.sizes c.self.inside.after levels in
    let ask = asked value c.args.self.now c.args.level c.args.p c.args.q c.index_mut-clusters.result.now c.self.view_is c.self.invariant c.requires.low c.requires.high c.requires.p c.requires.q c.requires.apart c.index_mut-clusters.ensures.value in
    merged_counted c.self.inside.traces c.self.inside.sizes c.self.inside.after levels (c.args.level - 1) c.args.p c.args.q c.index_mut-clusters.result.now c.merge.new.self ask.at c.self.invariant ask.p_in ask.q_in ask.away c.merge.ensures.joined
    c.merge.ensures.tallied so_far (subst (λ (v : ClusterLevels). IsCounted v so_far) (sym c.self.view_is) is)
