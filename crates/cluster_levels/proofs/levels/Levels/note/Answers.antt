use Rattle.std.proofs.Common.{◌∷◌, List, sym, ap, subst, arith}
use Rattle.cluster_levels.specs.Clusters.{LevelClusters}
use Rattle.cluster_levels.specs.Levels.{ClusterLevels, AreLevels, HasPartition, IsCounted, AreNoted, same_in}
use Rattle.cluster_levels.proofs.LevelLemmas.{rewritten, with_levels, noted_levels, noted_partition, noted_counted}
use Rattle.cluster_levels.proofs.levels.Levels.note.Goals as goal

pub invariant_of-self : goal.invariant_of-self
invariant_of-self c =
    let old = c.self.inside.levels.items in
    let new = c.note_at_each.new.levels in
    let noted : AreNoted old new c.args.p c.args.q = subst (λ (levels : List LevelClusters). AreNoted levels new c.args.p c.args.q) c.deref_mut.ensures.value c.note_at_each.ensures in
    let as_written = rewritten c.self.inside.levels.len old c.deref_mut.result.now new c.self.inside.levels.ok.0 c.deref_mut.ensures.value c.note_at_each.auto.levels in
    subst (λ (levels : List LevelClusters). AreLevels (with_levels c.self.inside.traces c.self.inside.sizes c.self.inside.after levels)) (sym as_written)
    (noted_levels c.self.inside.traces c.self.inside.sizes c.self.inside.after old new c.args.p c.args.q noted c.self.invariant)

pub returns-then-self-gt1-clause-partition : goal.returns-then-self-gt1-clause-partition
returns-then-self-gt1-clause-partition c =
    let old = c.self.inside.levels.items in
    let new = c.note_at_each.new.levels in
    let noted : AreNoted old new c.args.p c.args.q = subst (λ (levels : List LevelClusters). AreNoted levels new c.args.p c.args.q) c.deref_mut.ensures.value c.note_at_each.ensures in
    let as_written = rewritten c.self.inside.levels.len old c.deref_mut.result.now new c.self.inside.levels.ok.0 c.deref_mut.ensures.value c.note_at_each.auto.levels in
    subst (λ (levels : List LevelClusters). HasPartition (with_levels c.self.inside.traces c.self.inside.sizes c.self.inside.after levels) (same_in c.args.self.now)) (sym as_written)
    (subst (λ (value : ClusterLevels). HasPartition (with_levels c.self.inside.traces c.self.inside.sizes c.self.inside.after new) (same_in value)) c.self.view_is
    (noted_partition c.self.inside.traces c.self.inside.sizes c.self.inside.after old new c.args.p c.args.q noted))

pub returns-then-self-gt1-clause-counted : goal.returns-then-self-gt1-clause-counted
returns-then-self-gt1-clause-counted c so_far is =
    let old = c.self.inside.levels.items in
    let new = c.note_at_each.new.levels in
    let noted : AreNoted old new c.args.p c.args.q = subst (λ (levels : List LevelClusters). AreNoted levels new c.args.p c.args.q) c.deref_mut.ensures.value c.note_at_each.ensures in
    let as_written = rewritten c.self.inside.levels.len old c.deref_mut.result.now new c.self.inside.levels.ok.0 c.deref_mut.ensures.value c.note_at_each.auto.levels in
    let many = ap (λ (value : ClusterLevels). value.traces) c.self.view_is in
    subst (λ (levels : List LevelClusters). IsCounted (with_levels c.self.inside.traces c.self.inside.sizes c.self.inside.after levels) ((c.args.p, c.args.q) ∷ so_far)) (sym as_written)
    (noted_counted c.self.inside.traces c.self.inside.sizes c.self.inside.after old new c.args.p c.args.q noted (omega (arith, c.requires.p, many)) (omega (arith, c.requires.q, many)) so_far
    (subst (λ (value : ClusterLevels). IsCounted value so_far) (sym c.self.view_is) is))
