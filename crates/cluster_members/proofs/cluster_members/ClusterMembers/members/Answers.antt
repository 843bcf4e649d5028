use Rattle.std.proofs.Common.{◌≡◌, ◌-◌, ◌<◌, ℕ, List, length, Some, refl, sym, ◌∙◌, ap, subst, arith}
use Rattle.std.specs.Prelude.{slice_get}
use Rattle.std.proofs.lemmas.Option.{slice_get_read}
use Rattle.std.proofs.lemmas.Result.{IfOk-weaker}
use Rattle.cluster_levels.specs.Levels.{StandsAfter, clustering_of}
use Rattle.cluster_members.specs.Kept.{KeptLists, cluster_of}
use Rattle.cluster_members.proofs.Moments.{cluster_of_one, cluster_stands, earlier_is_now}
use Rattle.cluster_members.proofs.cluster_members.ClusterMembers.members.Goals as goal

pub returns-then-traces-cluster_size : goal.returns-then-traces-cluster_size
returns-then-traces-cluster_size c =
    let value = c.args.levels.now in
    let so_far = c.requires.kept.0 in
    let stands = c.requires.kept.1 in
    let kept = c.requires.kept.2 in
    let levels = c.self.inside.levels.items in
    let view : levels ≡ c.args.self.now = c.self.view_is in
    let within : c.args.level - 1 < length levels = omega (arith, c.requires.low, c.requires.high, kept.levels, ap (λ (xs : KeptLists). length xs) view) in
    let at : slice_get levels (c.args.level - 1) ≡ Some c.index.result.now = slice_get_read levels (length levels) (c.args.level - 1) c.index.result.now refl within c.index.ensures in
    let earlier = kept.each c.args.level c.args.trace c.in-Some.kept.now c.requires.low (record {
      lists = c.index.result.now;
      at_level = subst (λ (xs : KeptLists). slice_get xs (c.args.level - 1) ≡ Some c.index.result.now) view at;
      at_trace = c.in-Some.ensures.some;
    }) in
    let now = earlier_is_now value so_far c.args.level c.args.trace c.cluster_size.result c.in-Some.kept.now (c.clusters_grow.ensures (clustering_of value)) c.requires.low c.requires.trace stands earlier
    (sym (ap (λ (xs : List ℕ). length xs) c.traces.ensures.value) ∙ c.if-traces-cluster_size.true) c.cluster_size.ensures.size in
    IfOk-weaker c.share.result (λ (members : List ℕ). members ≡ c.in-Some.kept.now) (λ (members : List ℕ). (later : List (ℕ × ℕ)) → StandsAfter value later → members ≡ cluster_of (clustering_of value) later c.args.level c.args.trace)
    (λ members is later also. is ∙ (now ∙ cluster_stands value later c.args.level c.args.trace c.requires.low c.requires.trace also)) c.share.ensures

pub returns : goal.returns
returns c =
    let value = c.args.levels.now in
    IfOk-weaker c.either_cluster.result _ (λ (members : List ℕ). (later : List (ℕ × ℕ)) → StandsAfter value later → members ≡ cluster_of (clustering_of value) later c.args.level c.args.trace)
    (λ members is later also. is ∙ (cluster_of_one value c.args.level c.args.trace ∙ cluster_stands value later c.args.level c.args.trace c.requires.low c.requires.trace also)) c.either_cluster.ensures
