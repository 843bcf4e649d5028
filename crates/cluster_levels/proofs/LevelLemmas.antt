-- The clusters of all levels.
use Rattle.std.proofs.Common.{◌≡◌, ◌≢◌, ◌+◌, ◌-◌, ◌^◌, ◌<◌, ◌≤◌, ℕ, suc, zero, ◌⊎◌, inl, inr, List, [], ◌∷◌, ◌++◌, length, set, take, drop, Option, Some, None, Bool, true, false, cond, refl, sym, ◌∙◌, ap, subst, arith, get_or, get_or-set_other, get_or-set_same}
use Rattle.std.specs.Prelude.{count_by, slice_get, slice_index, nat_le, nat_lt, ◌==◌, ◌&&◌, ◌||◌}
use Rattle.std.proofs.lemmas.Bool.{cases_eq, cases_lt, eq-eqb, ne_eqb, eqb-true, eqb-false, cond-true, or_left, or_right, or_cases, and_from, and_parts, and_left, le-leb, lt-leb, leb-true, lt-ltb, le-ltb}
use Rattle.std.proofs.lemmas.List.{length-set}
use Rattle.std.proofs.lemmas.Option.{slice_get_cases, slice_get-get_or, slice_get_past, slice_get_read, slice_get_within, same_Some, none-some}
use Rattle.std.proofs.Math.Seq.{take-append_seam}
use Rattle.causal_base.specs.Clusters.{numbers_below, cluster_size, joins_clusters, may_merge}
use Rattle.causal_base.specs.declared.limits.TheConstants.{MOST_TRACES}
use Rattle.causal_base.proofs.CallerLemmas.{count_by-cons}
use Rattle.cluster_levels.specs.Sizes.{AreSizes}
use Rattle.cluster_levels.specs.Tallies.{tally, counted}
use Rattle.cluster_levels.specs.Clusters.{LevelClusters, AreOn, AreTallied, AreJoined, as_partition, label_of, shares, size_of, joins_of}
use Rattle.cluster_levels.specs.Levels.{ClusterLevels, clustering_of, shares_in, clusters_at, same_in, HasPartition, IsCounted, StandsAfter, joined_at, AreNested, AreLevels, AllAlone, IsNoted, AreNoted}
use Rattle.cluster_levels.proofs.Counting.{count_all}
use Rattle.cluster_levels.proofs.Joins.{moved_label, kept_label}

-- a write to a list changes one place
get_set_same : {A : Type 0} (xs : List A) (i : ℕ) (y : A) → i < length xs → slice_get (set xs i y) i ≡ Some y
get_set_same xs i y within =
    let inside : i < length (set xs i y) = omega (arith, within, length-set xs i y) in
    slice_get-get_or (set xs i y) i y inside ∙ ap Some (get_or-set_same xs i y y within)

get_set_other : {A : Type 0} (xs : List A) (i j : ℕ) (y : A) → j ≢ i → slice_get (set xs i y) j ≡ slice_get xs j
get_set_other xs i j y away = elim (cases_lt j (length xs)) [
  | inl within ↦
      let inside : j < length (set xs i y) = omega (arith, within, length-set xs i y) in
      slice_get-get_or (set xs i y) j y inside ∙ (ap Some (get_or-set_other xs i j y y away) ∙ sym (slice_get-get_or xs j y within))
  | inr past ↦
      let outside : length (set xs i y) ≤ j = omega (arith, past, length-set xs i y) in
      slice_get_past (set xs i y) j outside ∙ sym (slice_get_past xs j past)
]

-- a list that was written over with one as long
pub rewritten : {A : Type 0} (len : ℕ) (old got new : List A) → len ≡ length old → got ≡ old → length new ≡ length got → take len (new ++ drop (length new) old) ≡ new
rewritten {A} len old got new full was as_long =
    let long : length new ≡ length old = as_long ∙ ap (λ (xs : List A). length xs) was in
    ap (λ n. take n (new ++ drop (length new) old)) (full ∙ sym long) ∙ take-append_seam new (drop (length new) old)

same_bool : (x y : Bool) → (x ≡ true → y ≡ true) → (y ≡ true → x ≡ true) → x ≡ y
same_bool true y forth back = sym (forth refl)
same_bool false true forth back = back refl
same_bool false false forth back = refl

or_none : (x : Bool) → (x || false) ≡ x
or_none true = refl
or_none false = refl

-- above the levels with a size a cluster has all traces
pub size_above : (value : ClusterLevels) (level p : ℕ) → clusters_at value level ≡ None → value.traces ≡ cluster_size (clustering_of value) (same_in value) level p
size_above value level p none =
    sym (ap (λ (o : Option LevelClusters). count_by (λ other. shares_in o p other) (numbers_below value.traces)) none
    ∙ count_all (λ other. true) value.traces (λ x. refl))

module _ (value : ClusterLevels) (level p q : ℕ) (clusters : LevelClusters) (at : clusters_at value level ≡ Some clusters) (long : length clusters.labels ≡ value.traces) where
  -- how many traces a cluster has
  pub size_as : (x : ℕ) → cluster_size (clustering_of value) (same_in value) level x ≡ size_of clusters x
  size_as x =
      ap (λ (o : Option LevelClusters). count_by (λ other. shares_in o x other) (numbers_below value.traces)) at
      ∙ ap (λ n. count_by (λ other. shares clusters x other) (numbers_below n)) (sym long)

  -- how many communications join two clusters, with the next one
  joined_next : (so_far : List (ℕ × ℕ)) → count_by (joins_clusters (same_in value) level p q) ((p, q) ∷ so_far) ≡ suc (joins_of clusters so_far p q)
  joined_next so_far =
      let here : joins_clusters (as_partition clusters) 0 p q (p, q) ≡ true = or_left _ _ (and_from _ _ (eq-eqb (label_of clusters p) (label_of clusters p) refl) (eq-eqb (label_of clusters q) (label_of clusters q) refl)) in
      let one : ◌≡◌ {A = ℕ} (cond (joins_clusters (as_partition clusters) 0 p q (p, q)) 1 0) 1 = ap (λ (b : Bool). cond b 1 0) here in
      let more = count_by-cons (joins_clusters (as_partition clusters) 0 p q) (p, q) so_far in
      ap (λ (o : Option LevelClusters). count_by (λ (traces : ℕ × ℕ). (shares_in o p traces.0 && shares_in o q traces.1) || (shares_in o p traces.1 && shares_in o q traces.0)) ((p, q) ∷ so_far)) at
      ∙ omega (arith, one, more)

  -- whether they may merge with it
  may_as : (size_p size_q size : ℕ) → size_p ≡ size_of clusters p → size_q ≡ size_of clusters q → size ≡ slice_index value.sizes (level - 1)
      → (so_far : List (ℕ × ℕ)) → (nat_le (size_p + size_q) size && nat_le value.after (suc (joins_of clusters so_far p q))) ≡ may_merge (clustering_of value) (same_in value) ((p, q) ∷ so_far) level p q
  may_as size_p size_q size p_is q_is size_is so_far =
      let sum : size_p + size_q ≡ cluster_size (clustering_of value) (same_in value) level p + cluster_size (clustering_of value) (same_in value) level q = omega (arith, p_is, q_is, size_as p, size_as q) in
      ap (λ n. nat_le n size && nat_le value.after (suc (joins_of clusters so_far p q))) sum
      ∙ (ap (λ n. nat_le (cluster_size (clustering_of value) (same_in value) level p + cluster_size (clustering_of value) (same_in value) level q) n && nat_le value.after (suc (joins_of clusters so_far p q))) size_is
      ∙ ap (λ n. nat_le (cluster_size (clustering_of value) (same_in value) level p + cluster_size (clustering_of value) (same_in value) level q) (slice_index value.sizes (level - 1)) && nat_le value.after n) (sym (joined_next so_far)))

  pub may_not : (size_p size_q size : ℕ) → size_p ≡ size_of clusters p → size_q ≡ size_of clusters q → size ≡ slice_index value.sizes (level - 1) → size < size_p + size_q
      → (so_far : List (ℕ × ℕ)) → nat_le (size_p + size_q) size ≡ may_merge (clustering_of value) (same_in value) ((p, q) ∷ so_far) level p q
  may_not size_p size_q size p_is q_is size_is large so_far =
      let no = lt-leb (size_p + size_q) size large in
      no ∙ (sym (and_left (nat_le (size_p + size_q) size) (nat_le value.after (suc (joins_of clusters so_far p q))) no) ∙ may_as size_p size_q size p_is q_is size_is so_far)

  -- where the sizes allow it, it rests on how many communications join the two
  pub may_when : (size_p size_q size : ℕ) → size_p ≡ size_of clusters p → size_q ≡ size_of clusters q → size ≡ slice_index value.sizes (level - 1) → size_p + size_q ≤ size
      → (so_far : List (ℕ × ℕ)) (enough : Bool) → enough ≡ nat_le value.after (suc (joins_of clusters so_far p q)) → enough ≡ may_merge (clustering_of value) (same_in value) ((p, q) ∷ so_far) level p q
  may_when size_p size_q size p_is q_is size_is small so_far enough is =
      is ∙ (sym (ap (λ b. b && nat_le value.after (suc (joins_of clusters so_far p q))) (le-leb (size_p + size_q) size small)) ∙ may_as size_p size_q size p_is q_is size_is so_far)

-- the first communication is enough where no more are asked for
pub enough_first : (after n : ℕ) → after ≤ 1 → nat_le after 1 ≡ nat_le after (suc n)
enough_first after n few = le-leb after 1 few ∙ sym (le-leb after (suc n) (omega (arith, few)))

-- a count that stands still is enough where the number is
pub enough_tallied : (after n told : ℕ) → 1 < after → after < 2 ^ 32 → told ≡ counted n → nat_le (after - 1) told ≡ nat_le after (suc n)
enough_tallied after n told some small is = same_bool (nat_le (after - 1) told) (nat_le after (suc n))
    (λ yes. le-leb after (suc n) (let less = leb-true (after - 1) told yes in omega (arith, less, is, some)))
    (λ yes. le-leb (after - 1) told (let less = leb-true after (suc n) yes in omega (arith, less, is, some, small)))

-- in the value that has these levels
abbrev pub with_levels : ℕ → List ℕ → ℕ → List LevelClusters → ClusterLevels
with_levels traces sizes after levels = record { traces = traces; sizes = sizes; after = after; levels = levels }

-- a communication more at each level
module _ (traces : ℕ) (sizes : List ℕ) (after : ℕ) (old new : List LevelClusters) (p q : ℕ) (noted : AreNoted old new p q) where
  found_before : (i : ℕ) (clusters : LevelClusters) → slice_get new i ≡ Some clusters → (before : LevelClusters) × (slice_get old i ≡ Some before) × IsNoted before clusters p q
  found_before i clusters at =
      let within : i < length old = omega (arith, slice_get_within new i clusters at, noted.as_many) in
      let there = slice_get-get_or old i clusters within in
      (get_or old i clusters, there, noted.each i (get_or old i clusters) clusters there at)

  pub noted_levels : AreLevels (with_levels traces sizes after old) → AreLevels (with_levels traces sizes after new)
  noted_levels are = record {
    some = are.some;
    most = are.most;
    sizes = are.sizes;
    as_many = noted.as_many ∙ are.as_many;
    traces = λ i clusters at. let found = found_before i clusters at in ap (λ (labels : List ℕ). length labels) found.2.labels ∙ are.traces i found.0 found.1;
    width = λ i clusters at. let found = found_before i clusters at in found.2.width ∙ are.width i found.0 found.1;
    nested = λ i low high at above x y x_in y_in shared.
        let one = found_before i low at in
        let other = found_before (suc i) high above in
        let long : length low.labels ≡ length one.0.labels = ap (λ (labels : List ℕ). length labels) one.2.labels in
        let was = subst (λ (labels : List ℕ). (get_or labels x 0 == get_or labels y 0) ≡ true) one.2.labels shared in
        subst (λ (labels : List ℕ). (get_or labels x 0 == get_or labels y 0) ≡ true) (sym other.2.labels)
        (are.nested i one.0 other.0 one.1 other.1 x y (omega (arith, x_in, long)) (omega (arith, y_in, long)) was);
  }

  pub noted_partition : HasPartition (with_levels traces sizes after new) (same_in (with_levels traces sizes after old))
  noted_partition = record {
    shared = λ level x y low x_in y_in. elim (slice_get_cases new (level - 1)).1 [
      | inl found ↦
          let before = found_before (level - 1) found.0 found.2 in
          ap (λ (o : Option LevelClusters). shares_in o x y) found.2
          ∙ (ap (λ (labels : List ℕ). get_or labels x 0 == get_or labels y 0) before.2.labels ∙ ap (λ (o : Option LevelClusters). shares_in o x y) (sym before.1))
      | inr past ↦
          let none = slice_get_past old (level - 1) (omega (arith, past.0, noted.as_many)) in
          ap (λ (o : Option LevelClusters). shares_in o x y) (past.1 ∙ sym none)
    ];
  }

  pub noted_counted : p < traces → q < traces → (so_far : List (ℕ × ℕ)) → IsCounted (with_levels traces sizes after old) so_far → IsCounted (with_levels traces sizes after new) ((p, q) ∷ so_far)
  noted_counted p_in q_in so_far is = record {
    on_traces = (p_in, q_in, is.on_traces);
    tallied = λ some i clusters at. let found = found_before i clusters at in found.2.tallied so_far (is.tallied some i found.0 found.1);
  }

-- or not, where nothing is kept of it
pub unnoted_counted : (value : ClusterLevels) (p q : ℕ) → p < value.traces → q < value.traces → value.after ≤ 1 → (so_far : List (ℕ × ℕ)) → IsCounted value so_far → IsCounted value ((p, q) ∷ so_far)
unnoted_counted value p q p_in q_in few so_far is = record {
  on_traces = (p_in, q_in, is.on_traces);
  tallied = λ some. absurd (omega (arith, some, few));
}

-- traces share a cluster where they did, or where the two that became one join them
module _ (old new : LevelClusters) (p q : ℕ) (apart : label_of old p ≢ label_of old q) (are : AreJoined old new p q) where
  moved : (x : ℕ) → x < length old.labels → label_of old x ≡ label_of old q → label_of new x ≡ label_of old p
  moved x x_in same = moved_label (label_of old q) (label_of old p) apart (label_of old x) (label_of new x) (are.joined x x_in) same

  kept : (x : ℕ) → x < length old.labels → label_of old x ≢ label_of old q → label_of new x ≡ label_of old x
  kept x x_in away = kept_label (label_of old q) (label_of old p) apart (label_of old x) (label_of new x) (are.joined x x_in) away

  to_both : (x y : ℕ) → x < length old.labels → y < length old.labels → label_of new x ≡ label_of new y → (shares old x y || joins_clusters (as_partition old) 0 p q (x, y)) ≡ true
  to_both x y x_in y_in same = elim (cases_eq (label_of old x) (label_of old q)) [
    | inl x_gone ↦ elim (cases_eq (label_of old y) (label_of old q)) [
      | inl y_gone ↦ or_left _ _ (eq-eqb (label_of old x) (label_of old y) (x_gone ∙ sym y_gone))
      | inr y_kept ↦
          let is_p : label_of old p ≡ label_of old y = sym (moved x x_in x_gone) ∙ (same ∙ kept y y_in y_kept) in
          or_right _ _ (or_right _ _ (and_from _ _ (eq-eqb (label_of old p) (label_of old y) is_p) (eq-eqb (label_of old q) (label_of old x) (sym x_gone))))
    ]
    | inr x_kept ↦ elim (cases_eq (label_of old y) (label_of old q)) [
      | inl y_gone ↦
          let is_p : label_of old p ≡ label_of old x = sym (moved y y_in y_gone) ∙ (sym same ∙ kept x x_in x_kept) in
          or_right _ _ (or_left _ _ (and_from _ _ (eq-eqb (label_of old p) (label_of old x) is_p) (eq-eqb (label_of old q) (label_of old y) (sym y_gone))))
      | inr y_kept ↦ or_left _ _ (eq-eqb (label_of old x) (label_of old y) (sym (kept x x_in x_kept) ∙ (same ∙ kept y y_in y_kept)))
    ]
  ]

  one_way : (x y : ℕ) → x < length old.labels → y < length old.labels → label_of old p ≡ label_of old x → label_of old q ≡ label_of old y → label_of new x ≡ label_of new y
  one_way x y x_in y_in is_p is_q = kept x x_in (λ same. apart (is_p ∙ same)) ∙ (sym is_p ∙ sym (moved y y_in (sym is_q)))

  from_both : (x y : ℕ) → x < length old.labels → y < length old.labels → (shares old x y || joins_clusters (as_partition old) 0 p q (x, y)) ≡ true → label_of new x ≡ label_of new y
  from_both x y x_in y_in either = elim (or_cases _ _ either) [
    | inl shared ↦
        let same = eqb-true (label_of old x) (label_of old y) shared in
        are.joined x x_in ∙ (ap (λ n. cond (n == label_of old q) (label_of old p) n) same ∙ sym (are.joined y y_in))
    | inr join ↦ elim (or_cases _ _ join) [
      | inl first ↦
          let parts = and_parts (label_of old p == label_of old x) (label_of old q == label_of old y) first in
          one_way x y x_in y_in (eqb-true (label_of old p) (label_of old x) parts.0) (eqb-true (label_of old q) (label_of old y) parts.1)
      | inr second ↦
          let parts = and_parts (label_of old p == label_of old y) (label_of old q == label_of old x) second in
          sym (one_way y x y_in x_in (eqb-true (label_of old p) (label_of old y) parts.0) (eqb-true (label_of old q) (label_of old x) parts.1))
    ]
  ]

  pub joined_shares : (x y : ℕ) → x < length old.labels → y < length old.labels → shares new x y ≡ (shares old x y || joins_clusters (as_partition old) 0 p q (x, y))
  joined_shares x y x_in y_in = same_bool (shares new x y) (shares old x y || joins_clusters (as_partition old) 0 p q (x, y))
      (λ shared. to_both x y x_in y_in (eqb-true (label_of new x) (label_of new y) shared))
      (λ either. eq-eqb (label_of new x) (label_of new y) (from_both x y x_in y_in either))

-- the clusters of two traces became one at a level
module _ (traces : ℕ) (sizes : List ℕ) (after : ℕ) (levels : List LevelClusters) (i p q : ℕ) (old new : LevelClusters) (at : slice_get levels i ≡ Some old) (are : AreLevels (with_levels traces sizes after levels))
    (p_in : p < traces) (q_in : q < traces) (away : shares old p q ≡ false) (joined : AreJoined old new p q) where
  long : length old.labels ≡ traces
  long = are.traces i old at

  separate : label_of old p ≢ label_of old q
  separate = eqb-false (label_of old p) (label_of old q) away

  within : i < length levels
  within = slice_get_within levels i old at

  -- the clusters of a level after the merge, and before it
  found_at : (j : ℕ) (clusters : LevelClusters) → slice_get (set levels i new) j ≡ Some clusters → ((j ≡ i) × (new ≡ clusters)) ⊎ ((j ≢ i) × (slice_get levels j ≡ Some clusters))
  found_at j clusters there = elim (cases_eq j i) [
    | inl here ↦ inl (here, same_Some new clusters (sym (ap (λ n. slice_get (set levels i new) n) here ∙ get_set_same levels i new within) ∙ there))
    | inr elsewhere ↦ inr (elsewhere, sym (get_set_other levels i j new elsewhere) ∙ there)
  ]

  joined_traces : length new.labels ≡ traces
  joined_traces = joined.traces ∙ long

  grows : (x y : ℕ) → x < traces → y < traces → shares old x y ≡ true → shares new x y ≡ true
  grows x y x_in y_in shared = joined_shares old new p q separate joined x y (omega (arith, x_in, long)) (omega (arith, y_in, long)) ∙ or_left _ _ shared

  -- what became one lies within a cluster of the next level
  below_next : (high : LevelClusters) → (shares high p q ≡ true) → ((x y : ℕ) → x < traces → y < traces → shares old x y ≡ true → shares high x y ≡ true) → (x y : ℕ) → x < traces → y < traces → shares new x y ≡ true → shares high x y ≡ true
  below_next high next nest x y x_in y_in shared =
      elim (or_cases _ _ (sym (joined_shares old new p q separate joined x y (omega (arith, x_in, long)) (omega (arith, y_in, long))) ∙ shared)) [
        | inl before ↦ nest x y x_in y_in before
        | inr join ↦ elim (or_cases _ _ join) [
          | inl first ↦
              let parts = and_parts (shares old p x) (shares old q y) first in
              let one = eqb-true (label_of high p) (label_of high x) (nest p x p_in x_in parts.0) in
              let other = eqb-true (label_of high q) (label_of high y) (nest q y q_in y_in parts.1) in
              let both = eqb-true (label_of high p) (label_of high q) next in
              eq-eqb (label_of high x) (label_of high y) (sym one ∙ (both ∙ other))
          | inr second ↦
              let parts = and_parts (shares old p y) (shares old q x) second in
              let one = eqb-true (label_of high p) (label_of high y) (nest p y p_in y_in parts.0) in
              let other = eqb-true (label_of high q) (label_of high x) (nest q x q_in x_in parts.1) in
              let both = eqb-true (label_of high p) (label_of high q) next in
              eq-eqb (label_of high x) (label_of high y) (sym other ∙ (sym both ∙ one))
        ]
      ]

  next_as : (high : LevelClusters) → shares_in (slice_get levels (suc i)) p q ≡ true → slice_get levels (suc i) ≡ Some high → shares high p q ≡ true
  next_as high next there = subst (λ (o : Option LevelClusters). shares_in o p q ≡ true) there next

  nested_after : shares_in (slice_get levels (suc i)) p q ≡ true → AreNested (set levels i new)
  nested_after next j low high low_at high_at x y x_in y_in shared =
      elim (found_at j low low_at) [
        | inl here ↦ elim (found_at (suc j) high high_at) [
          | inl also ↦ absurd (omega (arith, here.0, also.0))
          | inr other ↦
              let above : slice_get levels (suc i) ≡ Some high = ap (λ n. slice_get levels (suc n)) (sym here.0) ∙ other.1 in
              let size : length low.labels ≡ traces = ap (λ (clusters : LevelClusters). length clusters.labels) (sym here.1) ∙ joined_traces in
              below_next high (next_as high next above) (λ u v u_in v_in. are.nested i old high at above u v (omega (arith, u_in, long)) (omega (arith, v_in, long)))
              x y (omega (arith, x_in, size)) (omega (arith, y_in, size)) (subst (λ (clusters : LevelClusters). shares clusters x y ≡ true) (sym here.1) shared)
        ]
        | inr elsewhere ↦
            let size : length low.labels ≡ traces = are.traces j low elsewhere.1 in
            elim (found_at (suc j) high high_at) [
              | inl also ↦
                  let below : slice_get levels (suc j) ≡ Some old = ap (λ n. slice_get levels n) also.0 ∙ at in
                  subst (λ (clusters : LevelClusters). shares clusters x y ≡ true) also.1 (grows x y (omega (arith, x_in, size)) (omega (arith, y_in, size)) (are.nested j low old elsewhere.1 below x y x_in y_in shared))
              | inr other ↦ are.nested j low high elsewhere.1 other.1 x y x_in y_in shared
            ]
      ]

  pub merged_levels : shares_in (slice_get levels (suc i)) p q ≡ true → AreLevels (with_levels traces sizes after (set levels i new))
  merged_levels next = record {
    some = are.some;
    most = are.most;
    sizes = are.sizes;
    as_many = length-set levels i new ∙ are.as_many;
    traces = λ j clusters there. elim (found_at j clusters there) [
      | inl here ↦ ap (λ (c : LevelClusters). length c.labels) (sym here.1) ∙ joined_traces
      | inr elsewhere ↦ are.traces j clusters elsewhere.1
    ];
    width = λ j clusters there. elim (found_at j clusters there) [
      | inl here ↦ ap (λ (c : LevelClusters). c.tallies.width) (sym here.1) ∙ (joined.width ∙ are.width i old at)
      | inr elsewhere ↦ are.width j clusters elsewhere.1
    ];
    nested = nested_after next;
  }

  pub merged_partition : (level : ℕ) → 1 ≤ level → i ≡ level - 1 → HasPartition (with_levels traces sizes after (set levels i new)) (joined_at (same_in (with_levels traces sizes after levels)) level p q)
  merged_partition level low is = record {
    shared = λ other x y other_low x_in y_in. elim (cases_eq other level) [
      | inl here ↦
          let place : other - 1 ≡ i = omega (arith, here, is) in
          let was : slice_get levels (other - 1) ≡ Some old = ap (λ n. slice_get levels n) place ∙ at in
          let now : slice_get (set levels i new) (other - 1) ≡ Some new = ap (λ n. slice_get (set levels i new) n) place ∙ get_set_same levels i new within in
          ap (λ (o : Option LevelClusters). shares_in o x y) now
          ∙ (joined_shares old new p q separate joined x y (omega (arith, x_in, long)) (omega (arith, y_in, long))
          ∙ (ap (λ b. shares old x y || (b && joins_clusters (as_partition old) 0 p q (x, y))) (sym (eq-eqb other level here))
          ∙ ap (λ (o : Option LevelClusters). shares_in o x y || ((other == level) && ((shares_in o p x && shares_in o q y) || (shares_in o p y && shares_in o q x)))) (sym was)))
      | inr elsewhere ↦
          let place : other - 1 ≢ i = λ same. elsewhere (omega (arith, same, is, low, other_low)) in
          ap (λ (o : Option LevelClusters). shares_in o x y) (get_set_other levels i (other - 1) new place)
          ∙ sym (ap (λ b. same_in (with_levels traces sizes after levels) other x y || b) (and_left (other == level) (joins_clusters (same_in (with_levels traces sizes after levels)) other p q (x, y)) (ne_eqb other level elsewhere))
          ∙ or_none (same_in (with_levels traces sizes after levels) other x y))
    ];
  }

  pub merged_counted : ((so_far : List (ℕ × ℕ)) → AreOn (length old.labels) so_far → 0 < old.tallies.width → AreTallied old so_far → AreTallied new so_far)
      → (so_far : List (ℕ × ℕ)) → IsCounted (with_levels traces sizes after levels) so_far → IsCounted (with_levels traces sizes after (set levels i new)) so_far
  merged_counted tallied so_far is = record {
    on_traces = is.on_traces;
    tallied = λ some j clusters there. elim (found_at j clusters there) [
      | inl here ↦
          let wide : old.tallies.width ≡ traces = are.width i old at ∙ cond-true (nat_lt 1 after) traces 0 (lt-ltb 1 after some) in
          subst (λ (c : LevelClusters). AreTallied c so_far) here.1 (tallied so_far (subst (λ n. AreOn n so_far) (sym long) is.on_traces) (omega (arith, wide, are.some)) (is.tallied some i old at))
      | inr elsewhere ↦ is.tallied some j clusters elsewhere.1
    ];
  }

-- each trace alone, with no communications
module _ (traces : ℕ) (sizes : List ℕ) (after : ℕ) (levels : List LevelClusters) (width : ℕ) (width_is : width ≡ cond (nat_lt 1 after) traces 0) (some : 1 ≤ traces) (alone : AllAlone levels traces width) where
  pub new_levels : traces ≤ MOST_TRACES → AreSizes sizes → length levels ≡ length sizes → AreLevels (with_levels traces sizes after levels)
  new_levels most are as_many = record {
    some = some;
    most = most;
    sizes = are;
    as_many = as_many;
    traces = alone.traces_each;
    width = λ i clusters at. alone.width_each i clusters at ∙ width_is;
    nested = λ i low high at above x y x_in y_in shared.
        let long = alone.traces_each i low at in
        let one = alone.alone i low at x (omega (arith, x_in, long)) in
        let other = alone.alone i low at y (omega (arith, y_in, long)) in
        let same : x ≡ y = sym one ∙ (eqb-true (label_of low x) (label_of low y) shared ∙ other) in
        eq-eqb (label_of high x) (label_of high y) (ap (λ n. label_of high n) same);
  }

  alone_shared : (level x y : ℕ) → 1 ≤ level → x < traces → y < traces → length levels ≡ length sizes → same_in (with_levels traces sizes after levels) level x y ≡ ((x == y) || nat_lt (length sizes) level)
  alone_shared level x y low x_in y_in as_many = elim (slice_get_cases levels (level - 1)).1 [
    | inl found ↦
        let one = alone.alone (level - 1) found.0 found.2 x x_in in
        let other = alone.alone (level - 1) found.0 found.2 y y_in in
        ap (λ (o : Option LevelClusters). shares_in o x y) found.2
        ∙ (ap (λ n. n == label_of found.0 y) one ∙ (ap (λ n. x == n) other
        ∙ (sym (or_none (x == y)) ∙ ap (λ b. (x == y) || b) (sym (le-ltb (length sizes) level (omega (arith, found.1, as_many, low)))))))
    | inr past ↦
        ap (λ (o : Option LevelClusters). shares_in o x y) past.1 ∙ sym (or_right (x == y) _ (lt-ltb (length sizes) level (omega (arith, past.0, as_many, low))))
  ]

  pub new_stands : length levels ≡ length sizes → StandsAfter (with_levels traces sizes after levels) []
  new_stands as_many = record {
    shared = record { shared = λ level x y low x_in y_in. alone_shared level x y low x_in y_in as_many };
    is_counted = record {
      on_traces = tt;
      tallied = λ more i clusters at. record {
        tallied = λ x y x_in y_in apart.
            let long = alone.traces_each i clusters at in
            let wide : width ≡ traces = width_is ∙ cond-true (nat_lt 1 after) traces 0 (lt-ltb 1 after more) in
            let x_is = alone.alone i clusters at x (omega (arith, x_in, long)) in
            let y_is = alone.alone i clusters at y (omega (arith, y_in, long)) in
            alone.none i clusters at (label_of clusters x) (label_of clusters y) (omega (arith, x_is, x_in, long, wide)) (omega (arith, y_is, y_in, long, wide));
      };
    };
  }

-- one level more with each alone
pub alone_none : (traces width : ℕ) → AllAlone [] traces width
alone_none traces width = record {
  traces_each = λ i clusters at. absurd (omega (arith, slice_get_within [] i clusters at));
  alone = λ i clusters at. absurd (omega (arith, slice_get_within [] i clusters at));
  width_each = λ i clusters at. absurd (omega (arith, slice_get_within [] i clusters at));
  none = λ i clusters at. absurd (omega (arith, slice_get_within [] i clusters at));
}

pushed_at : {A : Type 0} (xs : List A) (last : A) (i : ℕ) (x : A) → slice_get (xs ++ last ∷ []) i ≡ Some x → (slice_get xs i ≡ Some x) ⊎ (last ≡ x)
pushed_at [] last zero x at = inr (same_Some last x at)
pushed_at [] last (suc i) x at = absurd (none-some x at)
pushed_at (first ∷ xs) last zero x at = inl at
pushed_at (first ∷ xs) last (suc i) x at = pushed_at xs last i x at

pub alone_more : (levels : List LevelClusters) (traces width : ℕ) (next : LevelClusters) → AllAlone levels traces width → length next.labels ≡ traces → ((x : ℕ) → x < traces → label_of next x ≡ x) → next.tallies.width ≡ width
    → ((i j : ℕ) → i < next.tallies.width → j < next.tallies.width → tally next.tallies i j ≡ 0) → AllAlone (levels ++ next ∷ []) traces width
alone_more levels traces width next are long own wide none = record {
  traces_each = λ i clusters at. elim (pushed_at levels next i clusters at) [
    | inl before ↦ are.traces_each i clusters before
    | inr last ↦ subst (λ (c : LevelClusters). length c.labels ≡ traces) last long
  ];
  alone = λ i clusters at. elim (pushed_at levels next i clusters at) [
    | inl before ↦ are.alone i clusters before
    | inr last ↦ subst (λ (c : LevelClusters). (x : ℕ) → x < traces → label_of c x ≡ x) last own
  ];
  width_each = λ i clusters at. elim (pushed_at levels next i clusters at) [
    | inl before ↦ are.width_each i clusters before
    | inr last ↦ subst (λ (c : LevelClusters). c.tallies.width ≡ width) last wide
  ];
  none = λ i clusters at. elim (pushed_at levels next i clusters at) [
    | inl before ↦ are.none i clusters before
    | inr last ↦ subst (λ (c : LevelClusters). (row column : ℕ) → row < width → column < width → tally c.tallies row column ≡ 0) last
        (λ row column row_in column_in. none row column (omega (arith, row_in, wide)) (omega (arith, column_in, wide)))
  ];
}

-- the levels noted so far
pub noted_more : (old levels : List LevelClusters) (place p q : ℕ) (was next : LevelClusters) → place < length levels → slice_get levels place ≡ Some was → IsNoted was next p q
    → ((i : ℕ) (before after : LevelClusters) → i < place → slice_get old i ≡ Some before → slice_get levels i ≡ Some after → IsNoted before after p q)
    → ((i : ℕ) → place ≤ i → slice_get levels i ≡ slice_get old i)
    → ((i : ℕ) (before after : LevelClusters) → i < place + 1 → slice_get old i ≡ Some before → slice_get (set levels place next) i ≡ Some after → IsNoted before after p q)
    × ((i : ℕ) → place + 1 ≤ i → slice_get (set levels place next) i ≡ slice_get old i)
noted_more old levels place p q was next within at noted done left = (
  (λ i before after below before_at after_at. elim (cases_eq i place) [
    | inl here ↦
        let same_after : next ≡ after = same_Some next after (sym (ap (λ n. slice_get (set levels place next) n) here ∙ get_set_same levels place next within) ∙ after_at) in
        let same_before : was ≡ before = same_Some was before (sym at ∙ (left place (omega arith) ∙ (ap (λ n. slice_get old n) (sym here) ∙ before_at))) in
        subst (λ (c : LevelClusters). IsNoted before c p q) same_after (subst (λ (c : LevelClusters). IsNoted c next p q) same_before noted)
    | inr elsewhere ↦ done i before after (omega (arith, below, elsewhere)) before_at (sym (get_set_other levels place i next elsewhere) ∙ after_at)
  ]),
  (λ i above.
      let elsewhere : i ≢ place = λ same. omega (arith, above, same) in
      get_set_other levels place i next elsewhere ∙ left i (omega (arith, above))),
)

-- The clusters that are read at a level.
pub record IsAsked (value : ClusterLevels) (level p q : ℕ) (clusters : LevelClusters) : Type 0 where
  pub at : clusters_at value level ≡ Some clusters
  pub long : length clusters.labels ≡ value.traces
  pub p_in : p < value.traces
  pub q_in : q < value.traces
  pub away : shares clusters p q ≡ false

pub asked : (value now : ClusterLevels) (level p q : ℕ) (clusters : LevelClusters) → value ≡ now → AreLevels value → 1 ≤ level → level ≤ length now.sizes → p < now.traces → q < now.traces → same_in now level p q ≡ false
    → clusters ≡ get_or value.levels (level - 1) clusters → IsAsked value level p q clusters
asked value now level p q clusters view are low high p_in q_in away read =
    let levels = ap (λ (v : ClusterLevels). length v.sizes) view in
    let many = ap (λ (v : ClusterLevels). v.traces) view in
    let within : level - 1 < length value.levels = omega (arith, low, high, levels, are.as_many) in
    let at : slice_get value.levels (level - 1) ≡ Some clusters = slice_get_read value.levels (length value.levels) (level - 1) clusters refl within read in
    let was : same_in value level p q ≡ false = subst (λ (v : ClusterLevels). same_in v level p q ≡ false) (sym view) away in
    record {
      at = at;
      long = are.traces (level - 1) clusters at;
      p_in = omega (arith, p_in, many);
      q_in = omega (arith, q_in, many);
      away = subst (λ (o : Option LevelClusters). shares_in o p q ≡ false) at was;
    }

-- the two share a cluster of the next level
pub next_shared : (value now : ClusterLevels) (level p q : ℕ) → value ≡ now → 1 ≤ level → same_in now (level + 1) p q ≡ true → shares_in (slice_get value.levels (suc (level - 1))) p q ≡ true
next_shared value now level p q view low next =
    let place : suc (level - 1) ≡ (level + 1) - 1 = omega (arith, low) in
    ap (λ n. shares_in (slice_get value.levels n) p q) place ∙ subst (λ (v : ClusterLevels). same_in v (level + 1) p q ≡ true) (sym view) next
