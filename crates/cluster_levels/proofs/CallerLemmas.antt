-- The lemmas that the proofs of other crates cite.
use Rattle.std.proofs.Common.{◌≡◌, ◌<◌, ◌≤◌, ℕ, suc, ◌-◌, sym, ◌∙◌, List, [], ◌∷◌, length, Option, Bool, true, false, cond, inl, inr, refl, subst, ap, arith}
use Rattle.std.specs.Prelude.{count_by, nat_le, ◌==◌, ◌&&◌, ◌||◌}
use Rattle.causal_base.specs.Clusters.{Clustering, Partition, cluster_size, joins_clusters, may_merge, merges_down_to, partition}
use Rattle.causal_base.proofs.CallerLemmas.{count_by-cons}
use Rattle.cluster_levels.specs.Clusters.{LevelClusters, AreOn}
use Rattle.cluster_levels.specs.Levels.{ClusterLevels, AreLevels, HasPartition, clustering_of, joined_at, same_in, shares_in}
use Rattle.std.proofs.lemmas.Bool.{cases_eq, cases_lt, eq-eqb, ne_eqb, and_left, le-leb, lt-leb, or_left}
use Rattle.std.proofs.lemmas.Option.{slice_get_past}
use Rattle.cluster_levels.proofs.Counting.{count_agree}

-- partitions that agree on the traces, at a level
module _ (clustering : Clustering) (same other : Partition) (level : ℕ) (agree : (x y : ℕ) → x < clustering.traces → y < clustering.traces → same level x y ≡ other level x y) where
  -- have clusters of the same sizes
  pub size_agrees : (p : ℕ) → p < clustering.traces → cluster_size clustering same level p ≡ cluster_size clustering other level p
  size_agrees p p_in = count_agree (λ x. same level p x) (λ x. other level p x) clustering.traces (λ x x_in. agree p x p_in x_in)

  -- that the same communications join
  pub joins_agree : (p q x y : ℕ) → p < clustering.traces → q < clustering.traces → x < clustering.traces → y < clustering.traces → joins_clusters same level p q (x, y) ≡ joins_clusters other level p q (x, y)
  joins_agree p q x y p_in q_in x_in y_in =
      let a = agree p x p_in x_in in
      let b = agree q y q_in y_in in
      let c = agree p y p_in y_in in
      let d = agree q x q_in x_in in
      cc

  joined_agrees : (p q : ℕ) → p < clustering.traces → q < clustering.traces → (so_far : List (ℕ × ℕ)) → AreOn clustering.traces so_far → count_by (joins_clusters same level p q) so_far ≡ count_by (joins_clusters other level p q) so_far
  joined_agrees p q p_in q_in [] on = refl
  joined_agrees p q p_in q_in (pair ∷ so_far) on =
      let rest = joined_agrees p q p_in q_in so_far on.2 in
      let here : ◌≡◌ {A = ℕ} (cond (joins_clusters same level p q pair) 1 0) (cond (joins_clusters other level p q pair) 1 0) = ap (λ (b : Bool). cond b 1 0) (joins_agree p q pair.0 pair.1 p_in q_in on.0 on.1) in
      let one = count_by-cons (joins_clusters same level p q) pair so_far in
      let two = count_by-cons (joins_clusters other level p q) pair so_far in
      omega (arith, rest, here, one, two)

  -- and that may merge alike
  pub may_agrees : (p q : ℕ) → p < clustering.traces → q < clustering.traces → (so_far : List (ℕ × ℕ)) → AreOn clustering.traces so_far → may_merge clustering same so_far level p q ≡ may_merge clustering other so_far level p q
  may_agrees p q p_in q_in so_far on =
      let one = size_agrees p p_in in
      let two = size_agrees q q_in in
      let three = joined_agrees p q p_in q_in so_far on in
      cc

or_none : (x : Bool) → (x || false) ≡ x
or_none true = refl
or_none false = refl

-- a level that isn't this one is above it exactly where it is no lower
le_elsewhere : (from level : ℕ) → (level ≡ from → ⊥) → nat_le (suc from) level ≡ nat_le from level
le_elsewhere from level elsewhere = elim (cases_lt level from) [
  | inl below ↦ lt-leb (suc from) level (omega (arith, below)) ∙ sym (lt-leb from level below)
  | inr above ↦ le-leb (suc from) level (omega (arith, above, elsewhere)) ∙ sym (le-leb from level above)
]

-- what implies another thing adds nothing to it
or_known : (known one other join : Bool) → (join ≡ true → known ≡ true) → (known || (one && join)) ≡ (known || (other && join))
or_known true one other join implies = refl
or_known false one other true implies = absurd (let clash : false ≡ true = implies refl in cc)
or_known false true true false implies = refl
or_known false true false false implies = refl
or_known false false true false implies = refl
or_known false false false false implies = refl

-- above the levels with a size all traces share a cluster
pub same_above : (value : ClusterLevels) → AreLevels value → (level p q : ℕ) → length value.sizes < level → same_in value level p q ≡ true
same_above value are level p q above =
    ap (λ (o : Option LevelClusters). shares_in o p q) (slice_get_past value.levels (level - 1) (omega (arith, above, are.as_many)))

-- the partition where the clusters of two traces became one at each level from this one up
abbrev pub joined_from : Partition → ℕ → ℕ → ℕ → Partition
joined_from same from p q level x y = same level x y || (nat_le from level && joins_clusters same level p q (x, y))

-- above them all nothing became one
pub joined_none : (value : ClusterLevels) (same : Partition) (from p q : ℕ) → ((level x y : ℕ) → from ≤ level → same level x y ≡ true) → HasPartition value same → HasPartition value (joined_from same from p q)
joined_none value same from p q all has = record {
  shared = λ level x y low x_in y_in. has.shared level x y low x_in y_in ∙ elim (cases_lt level from) [
    | inl below ↦ sym (ap (λ b. same level x y || b) (and_left (nat_le from level) (joins_clusters same level p q (x, y)) (lt-leb from level below)) ∙ or_none (same level x y))
    | inr above ↦ all level x y above ∙ sym (or_left (same level x y) _ (all level x y above))
  ];
}

-- a level where the two share a cluster is passed over
pub joined_shared : (value : ClusterLevels) (same : Partition) (from p q : ℕ) → ((x y : ℕ) → joins_clusters same from p q (x, y) ≡ true → same from x y ≡ true) → HasPartition value (joined_from same (suc from) p q) → HasPartition value (joined_from same from p q)
joined_shared value same from p q already has = record {
  shared = λ level x y low x_in y_in. has.shared level x y low x_in y_in ∙ elim (cases_eq level from) [
    | inl here ↦
        let at = subst (λ (n : ℕ). joins_clusters same n p q (x, y) ≡ true → same n x y ≡ true) (sym here) (already x y) in
        or_known (same level x y) (nat_le (suc from) level) (nat_le from level) (joins_clusters same level p q (x, y)) at
    | inr elsewhere ↦ ap (λ b. same level x y || (b && joins_clusters same level p q (x, y))) (le_elsewhere from level elsewhere)
  ];
}

-- and at another one they become one
pub joined_more : (old new : ClusterLevels) (same : Partition) (from p q : ℕ) → new.traces ≡ old.traces → p < old.traces → q < old.traces → 1 ≤ from → HasPartition old (joined_from same (suc from) p q) → HasPartition new (joined_at (same_in old) from p q) → HasPartition new (joined_from same from p q)
joined_more old new same from p q many p_in q_in some has now = record {
  shared = λ level x y low x_in y_in.
      let x_old : x < old.traces = omega (arith, x_in, many) in
      let y_old : y < old.traces = omega (arith, y_in, many) in
      now.shared level x y low x_in y_in ∙ elim (cases_eq level from) [
        | inl here ↦
            let equal = eq-eqb level from here in
            let no_lower = le-leb from level (omega (arith, here)) in
            let a = plain level x y low here x_old y_old in
            let b = plain level p x low here p_in x_old in
            let c = plain level q y low here q_in y_old in
            let d = plain level p y low here p_in y_old in
            let e = plain level q x low here q_in x_old in
            cc
        | inr elsewhere ↦
            ap (λ b. same_in old level x y || b) (and_left (level == from) (joins_clusters (same_in old) level p q (x, y)) (ne_eqb level from elsewhere))
            ∙ (or_none (same_in old level x y) ∙ (has.shared level x y low x_old y_old ∙ ap (λ b. same level x y || (b && joins_clusters same level p q (x, y))) (le_elsewhere from level elsewhere)))
      ];
}
  where
    plain : (level x y : ℕ) → 1 ≤ level → level ≡ from → x < old.traces → y < old.traces → same_in old level x y ≡ same level x y
    plain level x y low here x_in y_in =
        has.shared level x y low x_in y_in
        ∙ (ap (λ b. same level x y || b) (and_left (nat_le (suc from) level) (joins_clusters same level p q (x, y)) (lt-leb (suc from) level (omega (arith, here)))) ∙ or_none (same level x y))

-- where the levels from one up are those down to which the two merge, it is the partition that the definitions have
pub partition_merged : (value : ClusterLevels) (so_far : List (ℕ × ℕ)) (down_to p q : ℕ)
    → ((level : ℕ) → 1 ≤ level → nat_le down_to level ≡ merges_down_to (clustering_of value) (partition (clustering_of value) so_far) ((p, q) ∷ so_far) p q level)
    → HasPartition value (joined_from (partition (clustering_of value) so_far) down_to p q) → HasPartition value (partition (clustering_of value) ((p, q) ∷ so_far))
partition_merged value so_far down_to p q down has = record {
  shared = λ level x y low x_in y_in.
      has.shared level x y low x_in y_in
      ∙ ap (λ b. partition (clustering_of value) so_far level x y || (b && joins_clusters (partition (clustering_of value) so_far) level p q (x, y))) (down level low);
}
