use Rattle.std.proofs.Common.{◌≡◌, ◌-◌, ◌<◌, ◌≤◌, suc, ◌∷◌, sym, ◌∙◌, ap, subst, arith}
use Rattle.std.proofs.lemmas.Bool.{le-leb}
use Rattle.causal_base.specs.Clusters.{Clustering}
use Rattle.cluster_levels.specs.Levels.{ClusterLevels, clustering_of}
use Rattle.cluster_merge.proofs.Joined.{AreJoinedAbove, joined_further, joined_next, joined_passed, next_fits}
use Rattle.cluster_merge.proofs.applying.apply.Goals as goal
use Rattle.cluster_merge.proofs.applying.apply.Goals.{then-not-same, else-not-same}

pub merge-requires-clause-fits : goal.merge-requires-clause-fits
merge-requires-clause-fits c =
    let so_far = c.requires.stands.0 in
    let is = c.loop-level.invariant in
    let many = ap (λ (k : Clustering). k.traces) is.made_with in
    let merge = c.args.merge in
    let merges = (c.requires.planned.merges so_far c.requires.stands.1).down c.loop-level.level (omega arith) in
    next_fits c.args.levels.now c.loop-level.levels so_far merge.p merge.q c.loop-level.level is.made_with (omega arith) is.few (omega (arith, many)) (omega (arith, many))
    (sym c.same.ensures ∙ c.if-not-same.true) (sym merges ∙ le-leb merge.level c.loop-level.level (omega (arith, c.loop-level-test.true))) (is.joined so_far c.requires.stands.1)

pub loop-level-preserved : goal.loop-level-preserved
loop-level-preserved c =
    let is = c.loop-level.invariant in
    let many = ap (λ (k : Clustering). k.traces) is.made_with in
    let old = c.args.levels.now in
    let p = c.args.merge.p in
    let q = c.args.merge.q in
    let level = c.loop-level.level in
    let some : 1 ≤ level = omega arith in
    let p_in : p < c.loop-level.levels.traces = omega (arith, many, c.requires.planned.first) in
    let q_in : q < c.loop-level.levels.traces = omega (arith, many, c.requires.planned.second) in
    let next : suc (level - 1) ≡ level = omega (arith, some) in
    record {
      few = omega arith;
      not_past = omega arith;
      made_with = elim c.if-not-same.branch [
        | then-not-same w ↦ ap clustering_of w.levels-is ∙ (w.merge.ensures.made_with ∙ is.made_with)
        | else-not-same w ↦ ap clustering_of w.levels-is ∙ is.made_with
      ];
      joined = λ so_far stands.
          let above = is.joined so_far stands in
          let parts = c.clusters_part_traces.ensures (clustering_of old) so_far in
          elim c.if-not-same.branch [
            | then-not-same w ↦
                let joined = joined_further old c.loop-level.levels w.merge.new.self so_far p q level w.merge.ensures.made_with some p_in q_in w.merge.ensures.partition above in
                let counted = w.merge.ensures.counted ((p, q) ∷ so_far) above.counted in
                subst (λ (v : ClusterLevels). AreJoinedAbove old v so_far p q (level - 1)) (sym w.levels-is) (joined_next old w.merge.new.self so_far p q level next joined counted)
            | else-not-same w ↦
                let joined = joined_passed old c.loop-level.levels so_far p q level parts some p_in q_in (sym c.same.ensures ∙ w.if-not-same.false) above in
                subst (λ (v : ClusterLevels). AreJoinedAbove old v so_far p q (level - 1)) (sym w.levels-is) (joined_next old c.loop-level.levels so_far p q level next joined above.counted)
          ];
    }
