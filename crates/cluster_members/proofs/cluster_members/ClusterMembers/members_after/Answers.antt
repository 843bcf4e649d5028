use Rattle.std.proofs.Common.{◌≡◌, ◌∷◌, ℕ, List, sym, ◌∙◌}
use Rattle.std.proofs.lemmas.Result.{IfOk-weaker}
use Rattle.cluster_levels.specs.Levels.{StandsAfter, clustering_of}
use Rattle.cluster_members.specs.Kept.{cluster_of}
use Rattle.cluster_members.proofs.Moments.{first_after, second_after, shared_before}
use Rattle.cluster_members.proofs.cluster_members.ClusterMembers.members_after.Goals as goal

pub returns-then-same-clause-first : goal.returns-then-same-clause-first
returns-then-same-clause-first c =
    let value = c.args.levels.now in
    let merge = c.args.merge in
    let parts = c.clusters_part_traces.ensures (clustering_of value) in
    let shared = sym c.same.ensures ∙ c.if-same.true in
    IfOk-weaker c.members.result _ (λ (members : List ℕ). (so_far : List (ℕ × ℕ)) → StandsAfter value so_far → members ≡ cluster_of (clustering_of value) ((merge.p, merge.q) ∷ so_far) merge.level merge.p)
    (λ members is so_far stands. is so_far stands ∙ (shared_before value so_far merge c.requires.planned parts stands shared ∙ first_after value so_far merge c.requires.planned parts stands)) c.members.ensures

pub returns-then-same-clause-second : goal.returns-then-same-clause-second
returns-then-same-clause-second c =
    let value = c.args.levels.now in
    let merge = c.args.merge in
    let parts = c.clusters_part_traces.ensures (clustering_of value) in
    let shared = sym c.same.ensures ∙ c.if-same.true in
    IfOk-weaker c.members.result _ (λ (members : List ℕ). (so_far : List (ℕ × ℕ)) → StandsAfter value so_far → members ≡ cluster_of (clustering_of value) ((merge.p, merge.q) ∷ so_far) merge.level merge.q)
    (λ members is so_far stands. is so_far stands ∙ (shared_before value so_far merge c.requires.planned parts stands shared ∙ second_after value so_far merge c.requires.planned parts stands)) c.members.ensures

pub returns-else-same-clause-first : goal.returns-else-same-clause-first
returns-else-same-clause-first c =
    let value = c.args.levels.now in
    let merge = c.args.merge in
    let parts = c.clusters_part_traces.ensures (clustering_of value) in
    IfOk-weaker c.either_cluster.result _ (λ (members : List ℕ). (so_far : List (ℕ × ℕ)) → StandsAfter value so_far → members ≡ cluster_of (clustering_of value) ((merge.p, merge.q) ∷ so_far) merge.level merge.p)
    (λ members is so_far stands. is ∙ first_after value so_far merge c.requires.planned parts stands) c.either_cluster.ensures

pub returns-else-same-clause-second : goal.returns-else-same-clause-second
returns-else-same-clause-second c =
    let value = c.args.levels.now in
    let merge = c.args.merge in
    let parts = c.clusters_part_traces.ensures (clustering_of value) in
    IfOk-weaker c.either_cluster.result _ (λ (members : List ℕ). (so_far : List (ℕ × ℕ)) → StandsAfter value so_far → members ≡ cluster_of (clustering_of value) ((merge.p, merge.q) ∷ so_far) merge.level merge.q)
    (λ members is so_far stands. is ∙ second_after value so_far merge c.requires.planned parts stands) c.either_cluster.ensures
