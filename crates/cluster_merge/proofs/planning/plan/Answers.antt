use Rattle.std.proofs.Common.{◌≡◌, ◌-◌, ◌∷◌, sym, ◌∙◌, ap, arith}
use Rattle.causal_base.specs.Clusters.{partition}
use Rattle.cluster_levels.specs.Levels.{clustering_of}
use Rattle.cluster_merge.proofs.Reached.{agrees_at, merge_planned}
use Rattle.cluster_merge.proofs.planning.plan.Goals as goal

pub returns-else-agrees-clause-planned : goal.returns-else-agrees-clause-planned
returns-else-agrees-clause-planned c =
    let clustering = clustering_of c.args.levels.now in
    let is = c.loop-level.invariant in
    record {
      first = c.requires.p;
      second = c.requires.q;
      least = is.least;
      most = is.most;
      merges = λ so_far stands. merge_planned c.args.levels.now so_far (record { p = c.args.p; q = c.args.q; level = c.loop-level.level }) is.least is.most
          (λ level x. (c.clusters_part_traces.ensures clustering so_far level x x x).0) (c.clusters_nest.ensures clustering so_far) (is.merges so_far stands)
          (λ lower some below.
          let at : lower ≡ c.loop-level.level - 1 = omega (arith, below) in
          ap (agrees_at clustering (partition clustering so_far) ((c.args.p, c.args.q) ∷ so_far) c.args.p c.args.q) at ∙ (sym (c.agrees.ensures so_far stands) ∙ c.if-agrees.false));
    }

pub returns-after-loop-level-clause-planned : goal.returns-after-loop-level-clause-planned
returns-after-loop-level-clause-planned c =
    let clustering = clustering_of c.args.levels.now in
    let is = c.loop-level.invariant in
    record {
      first = c.requires.p;
      second = c.requires.q;
      least = is.least;
      most = is.most;
      merges = λ so_far stands. merge_planned c.args.levels.now so_far (record { p = c.args.p; q = c.args.q; level = c.loop-level.level }) is.least is.most
          (λ level x. (c.clusters_part_traces.ensures clustering so_far level x x x).0) (c.clusters_nest.ensures clustering so_far) (is.merges so_far stands)
          (λ lower some below. absurd (omega (arith, some, below, c.loop-level-test.false)));
    }
