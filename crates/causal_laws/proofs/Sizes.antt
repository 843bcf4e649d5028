-- How many traces a cluster has, and how many members an event.
use Rattle.std.proofs.Common.{◌≡◌, ◌<◌, ◌≤◌, ◌+◌, ◌-◌, ℕ, suc, zero, ◌⊎◌, inl, inr, List, [], ◌∷◌, length, refl, sym, ◌∙◌, ap, arith, Bool, true, false, cond}
use Rattle.std.specs.Prelude.{◌==◌, ◌&&◌, ◌||◌, nat_lt, nat_le, count_by, reverse, Option, None, Some}
use Rattle.std.proofs.lemmas.Bool.{eqb-true, ltb-true, leb-true, and_parts, or_cases}
use Rattle.std.proofs.lemmas.List.{reverse-append}
use Rattle.std.proofs.lemmas.List.Sums.{length-filter, sum_by-append}
use Rattle.causal_base.specs.declared.event.Event.{Event}
use Rattle.causal_base.specs.Clusters.{Clustering, Partition, numbers_below, levels_of, size_at, cluster_size, joins_clusters, may_merge, holds_up_from, merges_down_to, partition, partition_after, first_level, communications, traces_joined}
use Rattle.causal_base.specs.History.{EventBlock}
use Rattle.causal_base.specs.Stamps.{history_of, level_of, newest_level, joined_level, is_member, members_of}
use Rattle.causal_base.proofs.CallerLemmas.{count_by-cons}
use Rattle.causal_laws.proofs.Partitions.{shared_on, shared_swapped, shared_above}

one_bit : (t a b : Bool) → (t ≡ true → (a ≡ true) ⊎ (b ≡ true)) → cond t 1 0 ≤ cond a 1 0 + cond b 1 0
one_bit false a b either = omega arith
one_bit true true b either = omega arith
one_bit true false true either = omega arith
one_bit true false false either = absurd (elim (either refl) [ inl is ↦ (let clash : false ≡ true = is in cc) | inr is ↦ (let clash : false ≡ true = is in cc) ])

-- what passes only where one of two others does is counted no more often than both
count_by-either : {A : Type 0} (test one other : A → Bool) (xs : List A) → ((x : A) → test x ≡ true → (one x ≡ true) ⊎ (other x ≡ true)) → count_by test xs ≤ count_by one xs + count_by other xs
count_by-either test one other [] either = omega arith
count_by-either test one other (x ∷ xs) either =
    let rest = count_by-either test one other xs either in
    let first = one_bit (test x) (one x) (other x) (either x) in
    let a = count_by-cons test x xs in
    let b = count_by-cons one x xs in
    let c = count_by-cons other x xs in
    omega (arith, rest, first, a, b, c)

-- what passes only where another does is counted no more often
count_by-fewer : {A : Type 0} (test other : A → Bool) (xs : List A) → ((x : A) → test x ≡ true → other x ≡ true) → count_by test xs ≤ count_by other xs
count_by-fewer test other [] follows = omega arith
count_by-fewer test other (x ∷ xs) follows =
    let rest = count_by-fewer test other xs follows in
    let first = one_bit (test x) (other x) false (λ passes. inl (follows x passes)) in
    let a = count_by-cons test x xs in
    let b = count_by-cons other x xs in
    omega (arith, rest, first, a, b)

-- a test that every number passes
count_all : (test : ℕ → Bool) → ((x : ℕ) → test x ≡ true) → (n : ℕ) → count_by test (numbers_below n) ≡ n
count_all test passes zero = refl
count_all test passes (suc n) =
    let rest = count_all test passes n in
    let first : ◌≡◌ {A = ℕ} (cond (test n) 1 0) 1 = ap (λ b. cond b 1 0) (passes n) in
    let a = count_by-cons test n (numbers_below n) in
    omega (arith, rest, first, a)

-- a number occurs once at most
count_one : (t n : ℕ) → (count_by (λ x. t == x) (numbers_below n) ≤ 1) × (n ≤ t → count_by (λ x. t == x) (numbers_below n) ≡ 0)
count_one t zero = (omega arith, λ _. refl)
count_one t (suc n) =
    let a = count_by-cons (λ x. t == x) n (numbers_below n) in
    let rest = count_one t n in
    elim (t == n) as (λ b. (t == n) ≡ b → (count_by (λ x. t == x) (numbers_below (suc n)) ≤ 1) × (suc n ≤ t → count_by (λ x. t == x) (numbers_below (suc n)) ≡ 0)) [
      | true ↦ λ is.
          let same : t ≡ n = eqb-true t n is in
          let none = rest.1 (omega (arith, same)) in
          let first : ◌≡◌ {A = ℕ} (cond (t == n) 1 0) 1 = ap (λ b. cond b 1 0) is in
          (omega (arith, a, none, first), λ above. absurd (omega (arith, above, same)))
      | false ↦ λ not_so.
          let first : ◌≡◌ {A = ℕ} (cond (t == n) 1 0) 0 = ap (λ b. cond b 1 0) not_so in
          (omega (arith, a, first, rest.0), λ above. let none = rest.1 (omega (arith, above)) in omega (arith, a, first, none))
    ] refl

-- counting a list backward
count_by-reversed : {A : Type 0} (test : A → Bool) (xs : List A) → count_by test (reverse xs) ≡ count_by test xs
count_by-reversed test [] = refl
count_by-reversed test (x ∷ xs) =
    let turned = ap (count_by test) (reverse-append (x ∷ []) xs) in
    let parts = sum_by-append (λ y. cond (test y) 1 0) (reverse xs) (x ∷ []) in
    let rest = count_by-reversed test xs in
    let last = count_by-cons test x [] in
    let first = count_by-cons test x xs in
    omega (arith, turned, parts, rest, last, first)

module _ (clustering : Clustering) where
  -- a test that holds from a level with a size up holds at it
  holds_here : (test : ℕ → Bool) (level : ℕ) → level ≤ levels_of clustering → holds_up_from test level (suc (levels_of clustering) - level) ≡ true → test level ≡ true
  holds_here test level low holds =
      elim (suc (levels_of clustering) - level) as (λ more. suc (levels_of clustering) - level ≡ more → holds_up_from test level more ≡ true → test level ≡ true) [
        | zero ↦ λ none all. absurd (omega (arith, none, low))
        | suc more ↦ λ some all. (and_parts (test level) (holds_up_from test (suc level) more) all).0
      ] refl holds

  -- a cluster of a level with a size is no larger than that
  pub cluster_is_small : (so_far : List (ℕ × ℕ)) (level : ℕ) → level ≤ levels_of clustering → 1 ≤ size_at clustering level → (t : ℕ) → cluster_size clustering (partition clustering so_far) level t ≤ size_at clustering level
  cluster_is_small [] level low some t =
      let one = (count_one t clustering.traces).0 in
      let fewer = count_by-fewer (λ x. partition clustering [] level t x) (λ x. t == x) (numbers_below clustering.traces)
      (λ x is. elim (or_cases (t == x) (nat_lt (levels_of clustering) level) is) [ inl same ↦ same | inr above ↦ absurd (let high = ltb-true (levels_of clustering) level above in omega (arith, low, high)) ]) in
      omega (arith, one, fewer, some)
  cluster_is_small ((p, q) ∷ so_far) level low some t =
      let most = cluster_is_small so_far level low some t in
      elim merges as (λ b. merges ≡ b → cluster_size clustering (partition clustering ((p, q) ∷ so_far)) level t ≤ size_at clustering level) [
        | false ↦ λ not_so. as_before most (λ x now. absurd (let clash : true ≡ false = sym (and_parts merges (joins_clusters same level p q (t, x)) now).0 ∙ not_so in cc))
        | true ↦ λ yes. elim (or_cases (same level p q) (may_merge clustering same ((p, q) ∷ so_far) level p q) (holds_here (λ j. same j p q || may_merge clustering same ((p, q) ∷ so_far) j p q) level low yes)) [
          | inl shared ↦ as_before most (λ x now. elim (joined x now) [
            | inl one ↦ on t q x (on t p q (back p t one.0) shared) one.1
            | inr other ↦ on t p x (on t q p (back q t other.1) (back p q shared)) other.0
          ])
          | inr may ↦ merged_size most (leb-true (cluster_size clustering same level p + cluster_size clustering same level q) (size_at clustering level)
              (and_parts (nat_le (cluster_size clustering same level p + cluster_size clustering same level q) (size_at clustering level)) _ may).0)
        ]
      ] refl
    where
      same : Partition
      same = partition clustering so_far

      merges : Bool
      merges = merges_down_to clustering (partition clustering so_far) ((p, q) ∷ so_far) p q level

      on : (x y z : ℕ) → partition clustering so_far level x y ≡ true → partition clustering so_far level y z ≡ true → partition clustering so_far level x z ≡ true
      on x y z one other = shared_on clustering so_far level x y z one other

      back : (x y : ℕ) → partition clustering so_far level x y ≡ true → partition clustering so_far level y x ≡ true
      back x y shared = shared_swapped clustering so_far level x y shared

      joined : (x : ℕ) → (merges_down_to clustering (partition clustering so_far) ((p, q) ∷ so_far) p q level && joins_clusters (partition clustering so_far) level p q (t, x)) ≡ true
          → ((partition clustering so_far level p t ≡ true) × (partition clustering so_far level q x ≡ true)) ⊎ ((partition clustering so_far level p x ≡ true) × (partition clustering so_far level q t ≡ true))
      joined x now =
          let joins = (and_parts (merges_down_to clustering (partition clustering so_far) ((p, q) ∷ so_far) p q level) (joins_clusters (partition clustering so_far) level p q (t, x)) now).1 in
          elim (or_cases (partition clustering so_far level p t && partition clustering so_far level q x) (partition clustering so_far level p x && partition clustering so_far level q t) joins)
          [ inl one ↦ inl (and_parts _ _ one) | inr other ↦ inr (and_parts _ _ other) ]

      -- where the merge adds nothing to the cluster of this trace
      as_before : cluster_size clustering (partition clustering so_far) level t ≤ size_at clustering level → ((x : ℕ) → (merges_down_to clustering (partition clustering so_far) ((p, q) ∷ so_far) p q level && joins_clusters (partition clustering so_far) level p q (t, x)) ≡ true → partition clustering so_far level t x ≡ true)
          → cluster_size clustering (partition clustering ((p, q) ∷ so_far)) level t ≤ size_at clustering level
      as_before most adds_nothing =
          let fewer = count_by-fewer (λ x. partition clustering ((p, q) ∷ so_far) level t x) (λ x. partition clustering so_far level t x) (numbers_below clustering.traces)
          (λ x is. elim (or_cases (partition clustering so_far level t x) _ is) [ inl before ↦ before | inr now ↦ adds_nothing x now ]) in
          omega (arith, fewer, most)

      both : ((x : ℕ) → partition clustering ((p, q) ∷ so_far) level t x ≡ true → (partition clustering so_far level p x ≡ true) ⊎ (partition clustering so_far level q x ≡ true))
          → cluster_size clustering (partition clustering so_far) level p + cluster_size clustering (partition clustering so_far) level q ≤ size_at clustering level
          → cluster_size clustering (partition clustering ((p, q) ∷ so_far)) level t ≤ size_at clustering level
      both of_two sum =
          let most = count_by-either (λ x. partition clustering ((p, q) ∷ so_far) level t x) (λ x. partition clustering so_far level p x) (λ x. partition clustering so_far level q x) (numbers_below clustering.traces) of_two in
          omega (arith, most, sum)

      merged_size : cluster_size clustering (partition clustering so_far) level t ≤ size_at clustering level → cluster_size clustering (partition clustering so_far) level p + cluster_size clustering (partition clustering so_far) level q ≤ size_at clustering level → cluster_size clustering (partition clustering ((p, q) ∷ so_far)) level t ≤ size_at clustering level
      merged_size most sum =
          elim (partition clustering so_far level p t) as (λ b. partition clustering so_far level p t ≡ b → cluster_size clustering (partition clustering ((p, q) ∷ so_far)) level t ≤ size_at clustering level) [
            | true ↦ λ of_p. both (λ x is. elim (or_cases (partition clustering so_far level t x) _ is) [
              | inl before ↦ inl (on p t x of_p before)
              | inr now ↦ elim (joined x now) [ inl one ↦ inr one.1 | inr other ↦ inl other.0 ]
            ]) sum
            | false ↦ λ not_p.
                elim (partition clustering so_far level q t) as (λ b. partition clustering so_far level q t ≡ b → cluster_size clustering (partition clustering ((p, q) ∷ so_far)) level t ≤ size_at clustering level) [
                  | true ↦ λ of_q. both (λ x is. elim (or_cases (partition clustering so_far level t x) _ is) [
                    | inl before ↦ inr (on q t x of_q before)
                    | inr now ↦ elim (joined x now) [ inl one ↦ inr one.1 | inr other ↦ inl other.0 ]
                  ]) sum
                  | false ↦ λ not_q. as_before most (λ x now. elim (joined x now) [
                    | inl one ↦ absurd (let clash : true ≡ false = sym one.0 ∙ not_p in cc)
                    | inr other ↦ absurd (let clash : true ≡ false = sym other.1 ∙ not_q in cc)
                  ])
                ] refl
          ] refl

  -- so many members as the cluster has traces
  length-members : (history : List EventBlock) (e : Event) → length (members_of clustering history e.id) ≡ cluster_size clustering (partition_after clustering (history_of e.id history)) (level_of clustering history e.id) e.id.trace
  length-members history e =
      length-filter (is_member clustering history e.id) (reverse (numbers_below clustering.traces))
      ∙ count_by-reversed (is_member clustering history e.id) (numbers_below clustering.traces)

  pub few_members : (history : List EventBlock) (e : Event) → level_of clustering history e.id ≤ levels_of clustering → 1 ≤ size_at clustering (level_of clustering history e.id) → length (members_of clustering history e.id) ≤ size_at clustering (level_of clustering history e.id)
  few_members history e low some =
      let all = length-members history e in
      let most = cluster_is_small (communications (history_of e.id history)) (level_of clustering history e.id) low some e.id.trace in
      omega (arith, all, most)

  pub all_members : (history : List EventBlock) (e : Event) → levels_of clustering < level_of clustering history e.id → length (members_of clustering history e.id) ≡ clustering.traces
  all_members history e high =
      length-members history e
      ∙ count_all (is_member clustering history e.id) (λ x. shared_above clustering (communications (history_of e.id history)) (level_of clustering history e.id) e.id.trace x high) clustering.traces

-- the first level is from the one where the search begins to the one above it all
first_level_within : (test : ℕ → Bool) (level more : ℕ) → (level ≤ first_level test level more) × (first_level test level more ≤ more + level)
first_level_within test level zero = (omega arith, omega arith)
first_level_within test level (suc more) =
    let rest = first_level_within test (suc level) more in
    elim (test level) as (λ b. (level ≤ cond b level (first_level test (suc level) more)) × (cond b level (first_level test (suc level) more) ≤ suc more + level)) [
      | true ↦ (omega arith, omega arith)
      | false ↦ (omega (arith, rest.0), omega (arith, rest.1))
    ]

joined_within : (clustering : Clustering) (same : Partition) (traces : Option (ℕ × ℕ)) → (1 ≤ joined_level clustering same traces) × (joined_level clustering same traces ≤ levels_of clustering + 1)
joined_within clustering same None = (omega arith, omega arith)
joined_within clustering same (Some traces) = first_level_within (λ level. same level traces.0 traces.1) 1 (levels_of clustering)

newest_within : (clustering : Clustering) (history : List EventBlock) → (1 ≤ newest_level clustering history) × (newest_level clustering history ≤ levels_of clustering + 1)
newest_within clustering [] = (omega arith, omega arith)
newest_within clustering (d ∷ past) = joined_within clustering (partition_after clustering (d ∷ past)) (traces_joined d)

-- a level is one that has a size, or the one above
pub level_within : (clustering : Clustering) (history : List EventBlock) (e : Event) → (1 ≤ level_of clustering history e.id) × (level_of clustering history e.id ≤ levels_of clustering + 1)
level_within clustering history e = newest_within clustering (history_of e.id history)
