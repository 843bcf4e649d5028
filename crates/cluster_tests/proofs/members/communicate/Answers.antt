use Rattle.std.proofs.Common.{◌≡◌, ◌∷◌, sym, subst}
use Rattle.causal_base.specs.Clusters.{Clustering}
use Rattle.cluster_levels.specs.Levels.{clustering_of}
use Rattle.cluster_members.specs.Kept.{AreKept, cluster_of}
use Rattle.cluster_members.proofs.CallerLemmas.{kept_grows}
use Rattle.cluster_tests.proofs.members.communicate.Goals as goal

pub keep-requires-clause-kept : goal.keep-requires-clause-kept
keep-requires-clause-kept c =
    let so_far = c.requires.0 in
    let merge = c.plan-merge.result in
    let made = sym c.apply.ensures.made_with in (
      (merge.p, merge.q) ∷ so_far,
      c.apply.ensures.stands so_far c.requires.1,
      subst (λ (k : Clustering). AreKept k ((merge.p, merge.q) ∷ so_far) c.args.kept.now) made (kept_grows (clustering_of c.args.levels.now) so_far (merge.p, merge.q) c.args.kept.now c.requires.2),
      subst (λ (k : Clustering). c.in_ok-members.members ≡ cluster_of k ((merge.p, merge.q) ∷ so_far) merge.level merge.p) made (c.in_ok-members.ensures.first so_far c.requires.1),
    )

pub returns : goal.returns
returns c =
    let so_far = c.requires.0 in
    let merge = c.plan-merge.result in
    let stands = c.apply.ensures.stands so_far c.requires.1 in
    let kept = subst (λ (k : Clustering). AreKept k ((merge.p, merge.q) ∷ so_far) c.args.kept.now) (sym c.apply.ensures.made_with) (kept_grows (clustering_of c.args.levels.now) so_far (merge.p, merge.q) c.args.kept.now c.requires.2) in
    ((merge.p, merge.q) ∷ so_far, stands, c.keep.ensures.kept ((merge.p, merge.q) ∷ so_far) stands kept)
