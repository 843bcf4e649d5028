use Rattle.std.proofs.Common.{◌≡◌, ◌+◌, ◌-◌, ◌<◌, ℕ, List, length, Option, Some, get_or, refl, sym, ◌∙◌, ap, subst, arith}
use Rattle.std.specs.Prelude.{slice_get, Contains}
use Rattle.std.proofs.lemmas.Option.{same_Some, slice_get_read}
use Rattle.std.proofs.lemmas.Bool.{OnTrue_at}
use Rattle.std.proofs.lemmas.List.Elements.{Contains-get_or}
use Rattle.causal_base.specs.Clusters.{partition}
use Rattle.cluster_levels.specs.Levels.{clustering_of}
use Rattle.cluster_members.specs.Kept.{AreKept, IsKeptAt, KeptLists, cluster_of}
use Rattle.cluster_members.proofs.ClusterLists.{traces_that-contains, traces_that-has}
use Rattle.cluster_members.proofs.Moments.{cluster_stands, kept_is_now}
use Rattle.cluster_members.proofs.KeptLists.{kept_more, set_same, taken_its}
use Rattle.cluster_members.proofs.cluster_members.ClusterMembers.keep.Goals as goal
use Rattle.cluster_members.proofs.cluster_members.ClusterMembers.keep.Goals.{then-not-has_as_many, else-not-has_as_many}

pub keep-requires : goal.keep-requires
keep-requires c k d within =
    let value = c.args.levels.now in
    let so_far = c.requires.kept.0 in
    let kept = c.requires.kept.2 in
    let levels = c.self.inside.levels.items in
    let view : levels ≡ c.args.self.now = c.self.view_is in
    let place : c.args.level - 1 < length levels = omega (arith, c.requires.low, c.requires.high, kept.levels, ap (λ (xs : KeptLists). length xs) view) in
    let at : slice_get levels (c.args.level - 1) ≡ Some c.index_mut-kept.result.now = slice_get_read levels (length levels) (c.args.level - 1) c.index_mut-kept.result.now refl place c.index_mut-kept.ensures.value in
    let long = kept.traces (c.args.level - 1) c.index_mut-kept.result.now (subst (λ (xs : KeptLists). slice_get xs (c.args.level - 1) ≡ Some c.index_mut-kept.result.now) view at) in
    let has = subst (λ (xs : List ℕ). Contains xs (get_or c.args.members.now k d)) c.requires.kept.3 (Contains-get_or c.args.members.now k d within) in
    let below = (traces_that-has (λ x. partition (clustering_of value) so_far c.args.level c.args.trace x) value.traces (get_or c.args.members.now k d) has).0 in
    omega (arith, long, below)

pub returns-clause-kept : goal.returns-clause-kept
returns-clause-kept c later stands are =
    let value = c.args.levels.now in
    let so_far = c.requires.kept.0 in
    let kept = c.requires.kept.2 in
    let levels = c.self.inside.levels.items in
    let view : levels ≡ c.args.self.now = c.self.view_is in
    let own = subst (λ (xs : KeptLists). AreKept (clustering_of value) later xs) (sym view) are in
    let place = c.args.level - 1 in
    let within : place < length levels = omega (arith, c.requires.low, c.requires.high, kept.levels, ap (λ (xs : KeptLists). length xs) view) in
    let at : slice_get levels place ≡ Some c.index_mut-kept.result.now = slice_get_read levels (length levels) place c.index_mut-kept.result.now refl within c.index_mut-kept.ensures.value in
    let level : c.args.level ≡ place + 1 = omega (arith, c.requires.low) in
    let now = sym (cluster_stands value so_far c.args.level c.args.trace c.requires.low c.requires.trace c.requires.kept.1) ∙ cluster_stands value later c.args.level c.args.trace c.requires.low c.requires.trace stands in
    let is = subst (λ (n : ℕ). c.args.members.now ≡ cluster_of (clustering_of value) later n c.args.trace) level (c.requires.kept.3 ∙ now) in
    elim c.if-not-has_as_many.branch [
      | then-not-has_as_many w ↦ rw w.self-inside-is
          (kept_more (clustering_of value) later levels place c.args.trace c.index_mut-kept.result.now w.keep.new.self c.args.members.now (c.clusters_part_traces.ensures (clustering_of value)) at w.keep.ensures is own)
      | else-not-has_as_many w ↦ rw w.self-inside-is
          (subst (λ (xs : KeptLists). AreKept (clustering_of value) later xs) (sym (set_same levels place c.index_mut-kept.result.now at)) own)
    ]

pub returns-clause-taken : goal.returns-clause-taken
returns-clause-taken c list =
    let value = c.args.levels.now in
    let so_far = c.requires.kept.0 in
    let stands = c.requires.kept.1 in
    let kept = c.requires.kept.2 in
    let levels = c.self.inside.levels.items in
    let view : levels ≡ c.args.self.now = c.self.view_is in
    let place = c.args.level - 1 in
    let within : place < length levels = omega (arith, c.requires.low, c.requires.high, kept.levels, ap (λ (xs : KeptLists). length xs) view) in
    let at : slice_get levels place ≡ Some c.index_mut-kept.result.now = slice_get_read levels (length levels) place c.index_mut-kept.result.now refl within c.index_mut-kept.ensures.value in
    let own = (c.clusters_part_traces.ensures (clustering_of value) so_far c.args.level c.args.trace c.args.trace c.args.trace).0 in
    let among = subst (λ (xs : List ℕ). Contains xs c.args.trace) (sym c.requires.kept.3)
    (traces_that-contains (λ x. partition (clustering_of value) so_far c.args.level c.args.trace x) value.traces c.args.trace c.requires.trace own) in
    elim c.if-not-has_as_many.branch [
      | then-not-has_as_many w ↦ rw w.self-inside-is
          (λ its. taken_its levels place c.args.trace c.index_mut-kept.result.now w.keep.new.self c.args.members.now at w.keep.ensures among c.args.level refl list its)
      | else-not-has_as_many w ↦ rw w.self-inside-is
          (λ its.
          let was = subst (λ (xs : KeptLists). IsKeptAt xs c.args.level c.args.trace list) (set_same levels place c.index_mut-kept.result.now at ∙ view) its in
          let lists_are : c.index_mut-kept.result.now ≡ was.lists = same_Some c.index_mut-kept.result.now was.lists (sym at ∙ (ap (λ (xs : KeptLists). slice_get xs place) view ∙ was.at_level)) in
          let told = OnTrue_at w.if-not-has_as_many.false c.has_as_many.ensures.as_many in
          let one : told.0 ≡ list = same_Some told.0 list (same_Some (Some told.0) (Some list) (sym told.1 ∙ (ap (λ (xs : List (Option (List ℕ))). slice_get xs c.args.trace) lists_are ∙ was.at_trace))) in
          kept_is_now value so_far c.args.self.now c.args.level c.args.trace list c.args.members.now (c.clusters_grow.ensures (clustering_of value)) c.requires.low c.requires.trace stands kept was (ap (λ (xs : List ℕ). length xs) (sym one) ∙ told.2) c.requires.kept.3)
    ]
