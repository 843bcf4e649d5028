-- What the levels share while the clusters of two traces become one, from the highest level down.
use Rattle.std.proofs.Common.{◌≡◌, ◌+◌, ◌-◌, ◌<◌, ◌≤◌, ℕ, suc, inl, inr, List, ◌∷◌, length, refl, sym, ◌∙◌, ap, subst, Bool, true, false, arith}
use Rattle.std.specs.Prelude.{◌&&◌, ◌||◌, nat_le}
use Rattle.std.proofs.lemmas.Bool.{and_from, and_left, and_parts, le-leb, leb-true, lt-leb, or_cases, or_left, or_right}
use Rattle.causal_base.specs.Clusters.{Clustering, Partition, cluster_size, joins_clusters, levels_of, may_merge, merges_down_to, partition, size_at}
use Rattle.cluster_levels.specs.Levels.{ClusterLevels, HasPartition, IsCounted, StandsAfter, clustering_of, joined_at, same_in}
use Rattle.cluster_levels.proofs.CallerLemmas.{joined_from, joined_more, joined_none, joined_shared, may_agrees, partition_merged, size_agrees}
use Rattle.cluster_merge.proofs.Reached.{merges_agrees, or_first}

-- what is asked of the levels is what the definitions ask of the partition
pub may_stands : (value : ClusterLevels) (so_far : List (ℕ × ℕ)) → StandsAfter value so_far → (level p q : ℕ) → 1 ≤ level → p < value.traces → q < value.traces
    → may_merge (clustering_of value) (same_in value) ((p, q) ∷ so_far) level p q ≡ may_merge (clustering_of value) (partition (clustering_of value) so_far) ((p, q) ∷ so_far) level p q
may_stands value so_far stands level p q low p_in q_in =
    may_agrees (clustering_of value) (same_in value) (partition (clustering_of value) so_far) level
    (λ x y x_in y_in. stands.shared.shared level x y low x_in y_in) p q p_in q_in ((p, q) ∷ so_far) (p_in, q_in, stands.is_counted.on_traces)

-- Sharing a cluster is an equivalence.
abbrev pub Parts : Partition → Type 0
Parts same = (level x y z : ℕ) → (same level x x ≡ true) × (same level x y ≡ true → same level y x ≡ true)
    × (same level x y ≡ true → same level y z ≡ true → same level x z ≡ true)

-- where two traces share a cluster, joining theirs adds nothing
joins_known : (same : Partition) → Parts same → (level p q x y : ℕ) → same level p q ≡ true → joins_clusters same level p q (x, y) ≡ true → same level x y ≡ true
joins_known same parts level p q x y shared joins = elim (or_cases (same level p x && same level q y) (same level p y && same level q x) joins) [
  | inl first ↦
      let its = and_parts (same level p x) (same level q y) first in
      (parts level x p y).2 ((parts level p x x).1 its.0) ((parts level p q y).2 shared its.1)
  | inr second ↦
      let its = and_parts (same level p y) (same level q x) second in
      (parts level x q y).2 ((parts level q x x).1 its.1) ((parts level q p y).2 ((parts level p q q).1 shared) its.0)
]

or_second : (one other : Bool) → other ≡ false → (one || other) ≡ one
or_second true other fails = refl
or_second false other fails = fails

-- below a level from which on the two's clusters are one, all is as before
joined_below : (same : Partition) (from p q level x y : ℕ) → level < from → joined_from same from p q level x y ≡ same level x y
joined_below same from p q level x y below = or_second (same level x y) _ (and_left (nat_le from level) (joins_clusters same level p q (x, y)) (lt-leb from level below))

-- and from it on the two share one
joined_two : (same : Partition) → Parts same → (from p q : ℕ) → joined_from same from p q from p q ≡ true
joined_two same parts from p q =
    let own = and_from (same from p p) (same from q q) (parts from p p p).0 (parts from q q q).0 in
    or_right (same from p q) _ (and_from (nat_le from from) _ (le-leb from from (omega arith)) (or_left (same from p p && same from q q) _ own))

-- The levels while two clusters become one: at each level above this one they are.
pub record AreJoinedAbove (old value : ClusterLevels) (so_far : List (ℕ × ℕ)) (p q level : ℕ) : Type 0 where
  pub shared : HasPartition value (joined_from (partition (clustering_of old) so_far) (suc level) p q)
  pub counted : IsCounted value ((p, q) ∷ so_far)

-- above the levels that have a size
pub joined_at_first : (old value : ClusterLevels) (so_far : List (ℕ × ℕ)) (p q : ℕ) → clustering_of value ≡ clustering_of old
    → ((level x y : ℕ) → levels_of (clustering_of old) < level → partition (clustering_of old) so_far level x y ≡ true)
    → HasPartition value (same_in old) → IsCounted value ((p, q) ∷ so_far) → StandsAfter old so_far → AreJoinedAbove old value so_far p q (length old.sizes)
joined_at_first old value so_far p q made all noted is_counted stands =
    let many = ap (λ (c : Clustering). c.traces) made in
    record {
      shared = joined_none value (partition (clustering_of old) so_far) (suc (length old.sizes)) p q (λ level x y above. all level x y (omega (arith, above)))
          (record {
            shared = λ level x y low x_in y_in. noted.shared level x y low x_in y_in ∙ stands.shared.shared level x y low (omega (arith, x_in, many)) (omega (arith, y_in, many));
          });
      counted = is_counted;
    }

-- a level where the two share a cluster is passed over
pub joined_passed : (old value : ClusterLevels) (so_far : List (ℕ × ℕ)) (p q level : ℕ) → Parts (partition (clustering_of old) so_far)
    → 1 ≤ level → p < value.traces → q < value.traces → same_in value level p q ≡ true
    → AreJoinedAbove old value so_far p q level → HasPartition value (joined_from (partition (clustering_of old) so_far) level p q)
joined_passed old value so_far p q level parts low p_in q_in shared above =
    let same = partition (clustering_of old) so_far in
    let below : level < suc level = omega arith in
    let was : same level p q ≡ true = sym (joined_below same (suc level) p q level p q below) ∙ (sym (above.shared.shared level p q low p_in q_in) ∙ shared) in
    joined_shared value same level p q (λ x y. joins_known same parts level p q x y was) above.shared

-- the two share a cluster of the next level up
pub next_is_one : (old value : ClusterLevels) (so_far : List (ℕ × ℕ)) (p q level : ℕ) → Parts (partition (clustering_of old) so_far)
    → p < value.traces → q < value.traces → AreJoinedAbove old value so_far p q level → same_in value (level + 1) p q ≡ true
next_is_one old value so_far p q level parts p_in q_in above =
    let next : level + 1 ≡ suc level = omega arith in
    above.shared.shared (level + 1) p q (omega arith) p_in q_in
    ∙ (ap (λ n. joined_from (partition (clustering_of old) so_far) (suc level) p q n p q) next ∙ joined_two (partition (clustering_of old) so_far) parts (suc level) p q)

-- together they are no larger than the level's size
pub next_fits : (old value : ClusterLevels) (so_far : List (ℕ × ℕ)) (p q level : ℕ) → clustering_of value ≡ clustering_of old
    → 1 ≤ level → level ≤ length old.sizes → p < value.traces → q < value.traces → same_in value level p q ≡ false
    → merges_down_to (clustering_of old) (partition (clustering_of old) so_far) ((p, q) ∷ so_far) p q level ≡ true
    → AreJoinedAbove old value so_far p q level
    → cluster_size (clustering_of value) (same_in value) level p + cluster_size (clustering_of value) (same_in value) level q ≤ size_at (clustering_of value) level
next_fits old value so_far p q level made low high p_in q_in away merges above =
    let clustering = clustering_of old in
    let same = partition clustering so_far in
    let many = ap (λ (c : Clustering). c.traces) made in
    let below : level < suc level = omega arith in
    let agree : (x y : ℕ) → x < old.traces → y < old.traces → same_in value level x y ≡ same level x y =
    λ x y x_in y_in. above.shared.shared level x y low (omega (arith, x_in, many)) (omega (arith, y_in, many)) ∙ joined_below same (suc level) p q level x y below in
    let p_old : p < old.traces = omega (arith, p_in, many) in
    let q_old : q < old.traces = omega (arith, q_in, many) in
    let apart : same level p q ≡ false = sym (agree p q p_old q_old) ∙ away in
    let may : may_merge clustering same ((p, q) ∷ so_far) level p q ≡ true =
    sym (or_first (same level p q) _ apart) ∙ merges_agrees clustering same ((p, q) ∷ so_far) p q level high merges in
    let sizes = leb-true (cluster_size clustering same level p + cluster_size clustering same level q) (size_at clustering level) (and_parts _ _ may).0 in
    let one = size_agrees clustering (same_in value) same level agree p p_old in
    let two = size_agrees clustering (same_in value) same level agree q q_old in
    subst (λ (k : Clustering). cluster_size k (same_in value) level p + cluster_size k (same_in value) level q ≤ size_at k level) (sym made) (omega (arith, sizes, one, two))

-- and where they became one, they are from this level on
pub joined_further : (old value new : ClusterLevels) (so_far : List (ℕ × ℕ)) (p q level : ℕ) → clustering_of new ≡ clustering_of value
    → 1 ≤ level → p < value.traces → q < value.traces → HasPartition new (joined_at (same_in value) level p q)
    → AreJoinedAbove old value so_far p q level → HasPartition new (joined_from (partition (clustering_of old) so_far) level p q)
joined_further old value new so_far p q level made low p_in q_in joined above =
    let many = ap (λ (c : Clustering). c.traces) made in
    joined_more value new (partition (clustering_of old) so_far) level p q many p_in q_in low above.shared joined

-- so the next level down is the one to look at
pub joined_next : (old value : ClusterLevels) (so_far : List (ℕ × ℕ)) (p q level : ℕ) → suc (level - 1) ≡ level
    → HasPartition value (joined_from (partition (clustering_of old) so_far) level p q) → IsCounted value ((p, q) ∷ so_far) → AreJoinedAbove old value so_far p q (level - 1)
joined_next old value so_far p q level next joined is_counted = record {
  shared = subst (λ (n : ℕ). HasPartition value (joined_from (partition (clustering_of old) so_far) n p q)) (sym next) joined;
  counted = is_counted;
}

-- at the last the levels stand after the communication, too
pub joined_at_last : (old value : ClusterLevels) (so_far : List (ℕ × ℕ)) (p q from level : ℕ) → clustering_of value ≡ clustering_of old → suc level ≡ from
    → ((n : ℕ) → 1 ≤ n → nat_le from n ≡ merges_down_to (clustering_of old) (partition (clustering_of old) so_far) ((p, q) ∷ so_far) p q n)
    → AreJoinedAbove old value so_far p q level → StandsAfter value ((p, q) ∷ so_far)
joined_at_last old value so_far p q from level made last down above =
    let has = subst (λ (n : ℕ). HasPartition value (joined_from (partition (clustering_of old) so_far) n p q)) last above.shared in
    record {
      shared = partition_merged value so_far from p q
          (subst (λ (k : Clustering). (n : ℕ) → 1 ≤ n → nat_le from n ≡ merges_down_to k (partition k so_far) ((p, q) ∷ so_far) p q n) (sym made) down)
          (subst (λ (k : Clustering). HasPartition value (joined_from (partition k so_far) from p q)) (sym made) has);
      is_counted = above.counted;
    }
