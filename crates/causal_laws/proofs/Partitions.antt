use Rattle.std.proofs.Common.{◌≡◌, ◌<◌, ◌≤◌, ◌+◌, ◌-◌, ℕ, suc, zero, ◌⊎◌, inl, inr, List, [], ◌∷◌, ◌++◌, refl, sym, ◌∙◌, ap, subst, arith, Bool, true, false, cond, eq-eqb}
use Rattle.std.specs.Prelude.{◌==◌, ◌&&◌, ◌||◌, nat_lt}
use Rattle.std.proofs.lemmas.Bool.{eqb-true, ltb-true, lt-ltb, and_parts, and_from, or_left, or_right, or_cases}
use Rattle.causal_base.specs.Clusters.{Clustering, Partition, levels_of, joins_clusters, may_merge, holds_up_from, merges_down_to, partition, first_level, shared_level}

module _ (clustering : Clustering) where
  -- clusters only grow
  pub shared_grows : (so_far : List (ℕ × ℕ)) (more : ℕ × ℕ) (level x y : ℕ) → partition clustering so_far level x y ≡ true → partition clustering (more ∷ so_far) level x y ≡ true
  shared_grows so_far (p, q) level x y shared = or_left _ _ shared

  pub shared_grows_on : (newer so_far : List (ℕ × ℕ)) (level x y : ℕ) → partition clustering so_far level x y ≡ true → partition clustering (newer ++ so_far) level x y ≡ true
  shared_grows_on [] so_far level x y shared = shared
  shared_grows_on (more ∷ newer) so_far level x y shared = shared_grows (newer ++ so_far) more level x y (shared_grows_on newer so_far level x y shared)

  -- a trace shares its own cluster
  pub shares_itself : (so_far : List (ℕ × ℕ)) (level x : ℕ) → partition clustering so_far level x x ≡ true
  shares_itself [] level x = or_left (x == x) _ (eq-eqb x x refl)
  shares_itself (more ∷ so_far) level x = shared_grows so_far more level x x (shares_itself so_far level x)

  -- above the levels with a size all traces share a cluster
  pub shared_above : (so_far : List (ℕ × ℕ)) (level x y : ℕ) → levels_of clustering < level → partition clustering so_far level x y ≡ true
  shared_above [] level x y above = or_right (x == y) _ (lt-ltb (levels_of clustering) level above)
  shared_above (more ∷ so_far) level x y above = shared_grows so_far more level x y (shared_above so_far level x y above)

  joins_swapped : (same : Partition) (level p q x y : ℕ) → joins_clusters same level p q (x, y) ≡ true → joins_clusters same level p q (y, x) ≡ true
  joins_swapped same level p q x y joins = elim (or_cases (same level p x && same level q y) (same level p y && same level q x) joins) [
    | inl first ↦ or_right (same level p y && same level q x) _ first
    | inr second ↦ or_left _ (same level p x && same level q y) second
  ]

  pub shared_swapped : (so_far : List (ℕ × ℕ)) (level x y : ℕ) → partition clustering so_far level x y ≡ true → partition clustering so_far level y x ≡ true
  shared_swapped [] level x y shared = elim (or_cases (x == y) (nat_lt (levels_of clustering) level) shared)
      [ inl same ↦ or_left (y == x) _ (eq-eqb y x (sym (eqb-true x y same))) | inr above ↦ or_right (y == x) _ above ]
  shared_swapped ((p, q) ∷ so_far) level x y shared =
      let same = partition clustering so_far in
      elim (or_cases (same level x y) (merges_down_to clustering same ((p, q) ∷ so_far) p q level && joins_clusters same level p q (x, y)) shared) [
        | inl before ↦ or_left _ _ (shared_swapped so_far level x y before)
        | inr now ↦
            let parts = and_parts (merges_down_to clustering same ((p, q) ∷ so_far) p q level) (joins_clusters same level p q (x, y)) now in
            or_right (same level y x) _ (and_from _ _ parts.0 (joins_swapped same level p q x y parts.1))
      ]

  -- what merges down to a level merges down to the next one up
  merges_above : (same : Partition) (so_far : List (ℕ × ℕ)) (p q level : ℕ) → merges_down_to clustering same so_far p q level ≡ true → merges_down_to clustering same so_far p q (suc level) ≡ true
  merges_above same so_far p q level merges =
      elim (suc (levels_of clustering) - level) as (λ more. suc (levels_of clustering) - level ≡ more → holds_up_from test level more ≡ true → holds_up_from test (suc level) (suc (levels_of clustering) - suc level) ≡ true) [
        | zero ↦ λ none holds.
            let fewer : suc (levels_of clustering) - suc level ≡ zero = omega (arith, none) in
            ap (λ n. holds_up_from test (suc level) n) fewer
        | suc more ↦ λ some holds.
            let fewer : suc (levels_of clustering) - suc level ≡ more = omega (arith, some) in
            ap (λ n. holds_up_from test (suc level) n) fewer ∙ (and_parts (test level) (holds_up_from test (suc level) more) holds).1
      ] refl merges
    where
      test : ℕ → Bool
      test j = same j p q || may_merge clustering same so_far j p q

  -- clusters that are joined at a level are joined at the next one up, where what is shared at the one is at the other
  joins_above : (same : Partition) (level p q x y : ℕ) → ((u v : ℕ) → same level u v ≡ true → same (suc level) u v ≡ true) → joins_clusters same level p q (x, y) ≡ true → joins_clusters same (suc level) p q (x, y) ≡ true
  joins_above same level p q x y above joins = elim (or_cases (same level p x && same level q y) (same level p y && same level q x) joins) [
    | inl first ↦
        let parts = and_parts (same level p x) (same level q y) first in
        or_left _ (same (suc level) p y && same (suc level) q x) (and_from _ _ (above p x parts.0) (above q y parts.1))
    | inr second ↦
        let parts = and_parts (same level p y) (same level q x) second in
        or_right (same (suc level) p x && same (suc level) q y) _ (and_from _ _ (above p y parts.0) (above q x parts.1))
  ]

  -- each cluster of a level lies within one cluster of the next
  pub shared_above_one : (so_far : List (ℕ × ℕ)) (level x y : ℕ) → partition clustering so_far level x y ≡ true → partition clustering so_far (suc level) x y ≡ true
  shared_above_one [] level x y shared = elim (or_cases (x == y) (nat_lt (levels_of clustering) level) shared) [
    | inl same ↦ or_left (x == y) _ same
    | inr above ↦
        let its = ltb-true (levels_of clustering) level above in
        let up : levels_of clustering < suc level = omega (arith, its) in
        or_right (x == y) _ (lt-ltb (levels_of clustering) (suc level) up)
  ]
  shared_above_one ((p, q) ∷ so_far) level x y shared =
      let same = partition clustering so_far in
      elim (or_cases (same level x y) (merges_down_to clustering same ((p, q) ∷ so_far) p q level && joins_clusters same level p q (x, y)) shared) [
        | inl before ↦ or_left _ _ (shared_above_one so_far level x y before)
        | inr now ↦
            let parts = and_parts (merges_down_to clustering same ((p, q) ∷ so_far) p q level) (joins_clusters same level p q (x, y)) now in
            or_right (same (suc level) x y) _ (and_from _ _ (merges_above same ((p, q) ∷ so_far) p q level parts.0)
            (joins_above same level p q x y (shared_above_one so_far level) parts.1))
      ]

  -- and of each level above it
  pub shared_up : (so_far : List (ℕ × ℕ)) (level more x y : ℕ) → partition clustering so_far level x y ≡ true → partition clustering so_far (more + level) x y ≡ true
  shared_up so_far level zero x y shared =
      let same : 0 + level ≡ level = omega arith in
      ap (λ n. partition clustering so_far n x y) same ∙ shared
  shared_up so_far level (suc more) x y shared =
      let one_more : suc more + level ≡ suc (more + level) = omega arith in
      ap (λ n. partition clustering so_far n x y) one_more ∙ shared_above_one so_far (more + level) x y (shared_up so_far level more x y shared)

  pub shared_up_to : (so_far : List (ℕ × ℕ)) (level higher x y : ℕ) → level ≤ higher → partition clustering so_far level x y ≡ true → partition clustering so_far higher x y ≡ true
  shared_up_to so_far level higher x y up shared =
      let more : (higher - level) + level ≡ higher = omega (arith, up) in
      ap (λ n. partition clustering so_far n x y) (sym more) ∙ shared_up so_far level (higher - level) x y shared

  -- the two ways in which a joining makes two traces share a cluster
  joined_cases : (same : Partition) (level p q x y : ℕ) → joins_clusters same level p q (x, y) ≡ true → ((same level p x ≡ true) × (same level q y ≡ true)) ⊎ ((same level p y ≡ true) × (same level q x ≡ true))
  joined_cases same level p q x y joins = elim (or_cases (same level p x && same level q y) (same level p y && same level q x) joins) [
    | inl first ↦ inl (and_parts (same level p x) (same level q y) first)
    | inr second ↦ inr (and_parts (same level p y) (same level q x) second)
  ]

  joined_first : (same : Partition) (level p q x y : ℕ) → same level p x ≡ true → same level q y ≡ true → joins_clusters same level p q (x, y) ≡ true
  joined_first same level p q x y first second = or_left _ (same level p y && same level q x) (and_from _ _ first second)

  joined_second : (same : Partition) (level p q x y : ℕ) → same level p y ≡ true → same level q x ≡ true → joins_clusters same level p q (x, y) ≡ true
  joined_second same level p q x y first second = or_right (same level p x && same level q y) _ (and_from _ _ first second)

  -- a merge keeps that sharing goes on from trace to trace
  module _ (so_far : List (ℕ × ℕ)) (level p q : ℕ) (on : (u v w : ℕ) → partition clustering so_far level u v ≡ true → partition clustering so_far level v w ≡ true → partition clustering so_far level u w ≡ true) where
    abbrev share : ℕ → ℕ → Type 0
    share u v = partition clustering so_far level u v ≡ true

    abbrev join : ℕ → ℕ → Type 0
    join u v = joins_clusters (partition clustering so_far) level p q (u, v) ≡ true

    swap : (u v : ℕ) → share u v → share v u
    swap u v = shared_swapped so_far level u v

    cases : (u v : ℕ) → join u v → (share p u × share q v) ⊎ (share p v × share q u)
    cases u v = joined_cases (partition clustering so_far) level p q u v

    share_join : (x y z : ℕ) → share x y → join y z → join x z
    share_join x y z one other = elim (cases y z other) [
      | inl first ↦ joined_first (partition clustering so_far) level p q x z (on p y x first.0 (swap x y one)) first.1
      | inr second ↦ joined_second (partition clustering so_far) level p q x z second.0 (on q y x second.1 (swap x y one))
    ]

    join_share : (x y z : ℕ) → join x y → share y z → join x z
    join_share x y z one other = elim (cases x y one) [
      | inl first ↦ joined_first (partition clustering so_far) level p q x z first.0 (on q y z first.1 other)
      | inr second ↦ joined_second (partition clustering so_far) level p q x z (on p y z second.0 other) second.1
    ]

    join_join : (x y z : ℕ) → join x y → join y z → share x z
    join_join x y z one other = elim (cases x y one) [
      | inl first ↦ elim (cases y z other) [
        | inl third ↦ on x p z (swap p x first.0) (on p y z third.0 (on y q z (swap q y first.1) third.1))
        | inr fourth ↦ on x p z (swap p x first.0) fourth.0
      ]
      | inr second ↦ elim (cases y z other) [
        | inl third ↦ on x q z (swap q x second.1) third.1
        | inr fourth ↦ on x q z (swap q x second.1) (on q y z fourth.1 (on y p z (swap p y second.0) fourth.0))
      ]
    ]

    merge_on : (merges : Bool) (x y z : ℕ) → (partition clustering so_far level x y || (merges && joins_clusters (partition clustering so_far) level p q (x, y))) ≡ true → (partition clustering so_far level y z || (merges && joins_clusters (partition clustering so_far) level p q (y, z))) ≡ true → (partition clustering so_far level x z || (merges && joins_clusters (partition clustering so_far) level p q (x, z))) ≡ true
    merge_on merges x y z one other =
        elim (or_cases (partition clustering so_far level x y) (merges && joins_clusters (partition clustering so_far) level p q (x, y)) one) [
          | inl before ↦ elim (or_cases (partition clustering so_far level y z) (merges && joins_clusters (partition clustering so_far) level p q (y, z)) other) [
            | inl also ↦ or_left _ _ (on x y z before also)
            | inr now ↦
                let parts = and_parts merges (joins_clusters (partition clustering so_far) level p q (y, z)) now in
                or_right (partition clustering so_far level x z) _ (and_from _ _ parts.0 (share_join x y z before parts.1))
          ]
          | inr now ↦
              let parts = and_parts merges (joins_clusters (partition clustering so_far) level p q (x, y)) now in
              elim (or_cases (partition clustering so_far level y z) (merges && joins_clusters (partition clustering so_far) level p q (y, z)) other) [
                | inl also ↦ or_right (partition clustering so_far level x z) _ (and_from _ _ parts.0 (join_share x y z parts.1 also))
                | inr too ↦ or_left _ _ (join_join x y z parts.1 (and_parts merges (joins_clusters (partition clustering so_far) level p q (y, z)) too).1)
              ]
        ]

  -- sharing a cluster goes on from trace to trace
  pub shared_on : (so_far : List (ℕ × ℕ)) (level x y z : ℕ) → partition clustering so_far level x y ≡ true → partition clustering so_far level y z ≡ true → partition clustering so_far level x z ≡ true
  shared_on [] level x y z one other = elim (or_cases (x == y) (nat_lt (levels_of clustering) level) one) [
    | inr above ↦ or_right (x == z) _ above
    | inl same ↦ subst (λ (v : ℕ). partition clustering [] level v z ≡ true) (sym (eqb-true x y same)) other
  ]
  shared_on ((p, q) ∷ so_far) level x y z one other =
      merge_on so_far level p q (λ u v w. shared_on so_far level u v w)
      (merges_down_to clustering (partition clustering so_far) ((p, q) ∷ so_far) p q level) x y z one other

-- the first level at which a test holds, where it holds at the one above them all
pub first_level_holds : (test : ℕ → Bool) (level more : ℕ) → test (more + level) ≡ true → test (first_level test level more) ≡ true
first_level_holds test level zero holds =
    let same : 0 + level ≡ level = omega arith in
    ap test (sym same) ∙ holds
first_level_holds test level (suc more) holds =
    elim (test level) as (λ b. test level ≡ b → test (cond b level (first_level test (suc level) more)) ≡ true) [
      | true ↦ λ is. is
      | false ↦ λ is.
          let moved : suc more + level ≡ more + suc level = omega arith in
          first_level_holds test (suc level) more (subst (λ (n : ℕ). test n ≡ true) moved holds)
    ] refl

-- two traces share a cluster at their level
pub shares_at_level : (clustering : Clustering) (so_far : List (ℕ × ℕ)) (traces : ℕ × ℕ) → partition clustering so_far (shared_level clustering (partition clustering so_far) traces) traces.0 traces.1 ≡ true
shares_at_level clustering so_far traces =
    let above : levels_of clustering < levels_of clustering + 1 = omega arith in
    first_level_holds (λ level. partition clustering so_far level traces.0 traces.1) 1 (levels_of clustering)
    (shared_above clustering so_far (levels_of clustering + 1) traces.0 traces.1 above)
