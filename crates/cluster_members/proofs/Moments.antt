-- The cluster of a trace at one moment and at another.
use Rattle.std.proofs.Common.{◌≡◌, ◌<◌, ◌≤◌, ℕ, List, ◌∷◌, ◌++◌, length, refl, sym, ◌∙◌, ap, subst, Bool, true, false, arith}
use Rattle.std.specs.Prelude.{◌&&◌, ◌||◌, count_by}
use Rattle.std.proofs.lemmas.Bool.{le-leb}
use Rattle.causal_base.specs.Clusters.{Clustering, Partition, cluster_size, merges_down_to, numbers_below, partition}
use Rattle.cluster_levels.specs.Levels.{ClusterLevels, StandsAfter, clustering_of, same_in}
use Rattle.cluster_merge.specs.declared.merge.Merge.{Merge}
use Rattle.cluster_merge.specs.Planned.{IsPlanned}
use Rattle.cluster_members.specs.Kept.{AreKept, IsKeptAt, IsOfEarlier, KeptLists, cluster_of, traces_that}
use Rattle.cluster_members.proofs.ClusterLists.{traces_that-agree, length-traces_that, count_same}

-- the levels have the list of a cluster
pub cluster_stands : (value : ClusterLevels) (so_far : List (ℕ × ℕ)) (level trace : ℕ) → 1 ≤ level → trace < value.traces → StandsAfter value so_far
    → traces_that (λ other. same_in value level trace other) value.traces ≡ cluster_of (clustering_of value) so_far level trace
cluster_stands value so_far level trace low within stands =
    traces_that-agree (λ other. same_in value level trace other) (λ other. partition (clustering_of value) so_far level trace other) value.traces
    (λ x x_in. stands.shared.shared level trace x low within x_in)

or_same : (one : Bool) → (one || one) ≡ one
or_same true = refl
or_same false = refl

pub cluster_of_one : (value : ClusterLevels) (level trace : ℕ) → traces_that (λ other. same_in value level trace other || same_in value level trace other) value.traces ≡ traces_that (λ other. same_in value level trace other) value.traces
cluster_of_one value level trace = traces_that-agree (λ other. same_in value level trace other || same_in value level trace other) (λ other. same_in value level trace other) value.traces (λ x within. or_same (same_in value level trace x))

-- Clusters only grow.
abbrev pub Grows : Clustering → Type 0
Grows clustering = (newer so_far : List (ℕ × ℕ)) (level x y : ℕ) → partition clustering so_far level x y ≡ true → partition clustering (newer ++ so_far) level x y ≡ true

-- a list of an earlier moment is that of the cluster where it has as many traces
pub earlier_is_now : (value : ClusterLevels) (so_far : List (ℕ × ℕ)) (level trace size : ℕ) (members : List ℕ) → Grows (clustering_of value) → 1 ≤ level → trace < value.traces → StandsAfter value so_far
    → IsOfEarlier (clustering_of value) so_far level trace members → length members ≡ size → size ≡ cluster_size (clustering_of value) (same_in value) level trace
    → members ≡ traces_that (λ other. same_in value level trace other) value.traces
earlier_is_now value so_far level trace size members grows low within stands earlier long counted =
    let was : ℕ → Bool = λ other. partition (clustering_of value) earlier.older level trace other in
    let is : ℕ → Bool = λ other. same_in value level trace other in
    let follows : (x : ℕ) → x < value.traces → was x ≡ true → is x ≡ true =
    λ x x_in shared.
    stands.shared.shared level trace x low within x_in
    ∙ subst (λ (xs : List (ℕ × ℕ)). partition (clustering_of value) xs level trace x ≡ true) earlier.up_to_now (grows earlier.newer earlier.older level trace x shared) in
    let many = length-traces_that was value.traces in
    let alike : count_by was (numbers_below value.traces) ≡ count_by is (numbers_below value.traces) =
    sym many ∙ (sym (ap (λ (xs : List ℕ). length xs) earlier.are) ∙ (long ∙ counted)) in
    earlier.are ∙ traces_that-agree was is value.traces (count_same was is value.traces follows alike)

-- what is kept for a trace, and has as many traces as the list of its cluster, is that list
pub kept_is_now : (value : ClusterLevels) (so_far : List (ℕ × ℕ)) (kept : KeptLists) (level trace : ℕ) (list members : List ℕ) → Grows (clustering_of value) → 1 ≤ level → trace < value.traces → StandsAfter value so_far
    → AreKept (clustering_of value) so_far kept → IsKeptAt kept level trace list → length list ≡ length members → members ≡ cluster_of (clustering_of value) so_far level trace → list ≡ members
kept_is_now value so_far kept level trace list members grows low within stands are at long is =
    let standing = cluster_stands value so_far level trace low within stands in
    let size : length members ≡ cluster_size (clustering_of value) (same_in value) level trace =
    ap (λ (xs : List ℕ). length xs) (is ∙ sym standing) ∙ length-traces_that (λ other. same_in value level trace other) value.traces in
    earlier_is_now value so_far level trace (length members) list grows low within stands (are.each level trace list low at) long size ∙ (standing ∙ sym is)

-- Sharing a cluster is an equivalence.
abbrev pub Parts : Clustering → Type 0
Parts clustering = (so_far : List (ℕ × ℕ)) (level x y z : ℕ) → (partition clustering so_far level x x ≡ true)
    × (partition clustering so_far level x y ≡ true → partition clustering so_far level y x ≡ true)
    × (partition clustering so_far level x y ≡ true → partition clustering so_far level y z ≡ true → partition clustering so_far level x z ≡ true)

join_first : (one other own back down : Bool) → own ≡ true → down ≡ true → (one || (down && ((own && other) || (one && back)))) ≡ (one || other)
join_first true other own back down is merges = refl
join_first false other true back true is merges = or_false other
  where
    or_false : (b : Bool) → (b || false) ≡ b
    or_false true = refl
    or_false false = refl
join_first false other false back down is merges = absurd (let clash : false ≡ true = is in cc)
join_first false other true back false is merges = absurd (let clash : false ≡ true = merges in cc)

join_second : (one other own back down : Bool) → own ≡ true → down ≡ true → (other || (down && ((back && other) || (one && own)))) ≡ (one || other)
join_second one true own back down is merges = sym (or_true one)
  where
    or_true : (b : Bool) → (b || true) ≡ true
    or_true true = refl
    or_true false = refl
join_second true false true true true is merges = refl
join_second true false true false true is merges = refl
join_second false false true true true is merges = refl
join_second false false true false true is merges = refl
join_second one false false back down is merges = absurd (let clash : false ≡ true = is in cc)
join_second one false true back false is merges = absurd (let clash : false ≡ true = merges in cc)

-- At a merge's level its two traces share the cluster of the one and of the other.
module _ (value : ClusterLevels) (so_far : List (ℕ × ℕ)) (merge : Merge) (planned : IsPlanned value merge) (parts : Parts (clustering_of value)) (stands : StandsAfter value so_far) where
  abbrev same : Partition
  same = partition (clustering_of value) so_far

  down : merges_down_to (clustering_of value) same ((merge.p, merge.q) ∷ so_far) merge.p merge.q merge.level ≡ true
  down = sym ((planned.merges so_far stands).down merge.level planned.least) ∙ le-leb merge.level merge.level (omega arith)

  abbrev either : ℕ → Bool
  either x = same_in value merge.level merge.p x || same_in value merge.level merge.q x

  either_is : (x : ℕ) → x < value.traces → either x ≡ (same merge.level merge.p x || same merge.level merge.q x)
  either_is x within =
      let one = stands.shared.shared merge.level merge.p x planned.least planned.first within in
      let other = stands.shared.shared merge.level merge.q x planned.least planned.second within in
      ap (λ b. b || same_in value merge.level merge.q x) one ∙ ap (λ b. same merge.level merge.p x || b) other

  pub first_after : traces_that either value.traces ≡ cluster_of (clustering_of value) ((merge.p, merge.q) ∷ so_far) merge.level merge.p
  first_after = traces_that-agree either (λ x. partition (clustering_of value) ((merge.p, merge.q) ∷ so_far) merge.level merge.p x) value.traces
      (λ x within. either_is x within
      ∙ sym (join_first (same merge.level merge.p x) (same merge.level merge.q x) (same merge.level merge.p merge.p) (same merge.level merge.q merge.p) _ (parts so_far merge.level merge.p x x).0 down))

  pub second_after : traces_that either value.traces ≡ cluster_of (clustering_of value) ((merge.p, merge.q) ∷ so_far) merge.level merge.q
  second_after = traces_that-agree either (λ x. partition (clustering_of value) ((merge.p, merge.q) ∷ so_far) merge.level merge.q x) value.traces
      (λ x within. either_is x within
      ∙ sym (join_second (same merge.level merge.p x) (same merge.level merge.q x) (same merge.level merge.q merge.q) (same merge.level merge.p merge.q) _ (parts so_far merge.level merge.q x x).0 down))

  or_part : (one other : Bool) → (other ≡ true → one ≡ true) → one ≡ (one || other)
  or_part true other follows = refl
  or_part false true follows = follows refl
  or_part false false follows = refl

  -- where they share one already, it is that
  pub shared_before : same_in value merge.level merge.p merge.q ≡ true → cluster_of (clustering_of value) so_far merge.level merge.p ≡ traces_that either value.traces
  shared_before shared =
      let share : same merge.level merge.p merge.q ≡ true = sym (stands.shared.shared merge.level merge.p merge.q planned.least planned.first planned.second) ∙ shared in
      traces_that-agree (λ x. same merge.level merge.p x) either value.traces
      (λ x within. or_part (same merge.level merge.p x) (same merge.level merge.q x) (λ also. (parts so_far merge.level merge.p merge.q x).2 share also) ∙ sym (either_is x within))
