-- The levels down to which the clusters of two traces merge.
use Rattle.std.proofs.Common.{◌≡◌, ◌+◌, ◌-◌, ◌<◌, ◌≤◌, ℕ, suc, zero, inl, inr, List, ◌∷◌, refl, sym, ◌∙◌, ap, Bool, true, false, cond, arith}
use Rattle.std.specs.Prelude.{◌&&◌, ◌||◌, nat_le}
use Rattle.std.proofs.lemmas.Bool.{and_from, and_parts, both_ways, cases_lt, false_from_ne_true, le-leb, lt-leb, or_left}
use Rattle.causal_base.specs.Clusters.{Clustering, Partition, first_level, holds_up_from, joins_clusters, levels_of, may_merge, merges_down_to, partition}
use Rattle.cluster_levels.specs.Levels.{ClusterLevels, clustering_of}
use Rattle.cluster_merge.specs.declared.merge.Merge.{Merge}
use Rattle.cluster_merge.specs.Planned.{IsMergeAfter}

-- what is false adds nothing
pub or_first : (one other : Bool) → one ≡ false → (one || other) ≡ other
or_first one other fails = ap (λ b. b || other) fails

module _ (clustering : Clustering) (same : Partition) (so_far : List (ℕ × ℕ)) (p q : ℕ) where
  abbrev pub agrees_at : ℕ → Bool
  agrees_at level = same level p q || may_merge clustering same so_far level p q

  abbrev pub merges_to : ℕ → Bool
  merges_to level = merges_down_to clustering same so_far p q level

  -- above the levels that have a size they merge
  pub merges_above : (level : ℕ) → levels_of clustering < level → merges_to level ≡ true
  merges_above level above =
      let none : suc (levels_of clustering) - level ≡ 0 = omega (arith, above) in
      ap (λ n. holds_up_from agrees_at level n) none

  -- and at one of these they do where they agree there, and merge at the next one up
  pub merges_step : (level : ℕ) → level ≤ levels_of clustering → merges_to level ≡ (agrees_at level && merges_to (suc level))
  merges_step level within =
      let more : suc (levels_of clustering) - level ≡ suc (suc (levels_of clustering) - suc level) = omega (arith, within) in
      ap (λ n. holds_up_from agrees_at level n) more

  pub merges_agrees : (level : ℕ) → level ≤ levels_of clustering → merges_to level ≡ true → agrees_at level ≡ true
  merges_agrees level within merges = (and_parts (agrees_at level) (merges_to (suc level)) (sym (merges_step level within) ∙ merges)).0

  pub merges_on : (level : ℕ) → level ≤ levels_of clustering → agrees_at level ≡ true → merges_to (suc level) ≡ true → merges_to level ≡ true
  merges_on level within agrees above = merges_step level within ∙ and_from (agrees_at level) (merges_to (suc level)) agrees above

  merges_up : (level : ℕ) → merges_to level ≡ true → merges_to (suc level) ≡ true
  merges_up level merges = elim (cases_lt (levels_of clustering) level) [
    | inl above ↦ merges_above (suc level) (omega (arith, above))
    | inr within ↦ (and_parts (agrees_at level) (merges_to (suc level)) (sym (merges_step level within) ∙ merges)).1
  ]

  merges_up_by : (level more : ℕ) → merges_to level ≡ true → merges_to (more + level) ≡ true
  merges_up_by level zero merges =
      let here : 0 + level ≡ level = omega arith in
      ap merges_to here ∙ merges
  merges_up_by level (suc more) merges =
      let next : suc more + level ≡ suc (more + level) = omega arith in
      ap merges_to next ∙ merges_up (more + level) (merges_up_by level more merges)

  pub merges_up_to : (level higher : ℕ) → level ≤ higher → merges_to level ≡ true → merges_to higher ≡ true
  merges_up_to level higher up merges =
      let more : (higher - level) + level ≡ higher = omega (arith, up) in
      ap merges_to (sym more) ∙ merges_up_by level (higher - level) merges

  -- A level to which they merge, and no lower one is next to it or they don't agree there, is the lowest.
  pub merges_from : (from : ℕ) → from ≤ levels_of clustering + 1 → merges_to from ≡ true → ((lower : ℕ) → 1 ≤ lower → suc lower ≡ from → agrees_at lower ≡ false)
      → (level : ℕ) → 1 ≤ level → nat_le from level ≡ merges_to level
  merges_from from within merges refused level some = elim (cases_lt level from) [
    | inl below ↦
        let lower : suc (from - 1) ≡ from = omega (arith, below) in
        let fails : agrees_at (from - 1) ≡ false = refused (from - 1) (omega (arith, below, some)) lower in
        let not_below : merges_to level ≡ true → ⊥ = λ also.
        both_ways (agrees_at (from - 1)) fails
        (merges_agrees (from - 1) (omega (arith, within, below)) (merges_up_to level (from - 1) (omega (arith, below)) also)) in
        lt-leb from level below ∙ sym (false_from_ne_true (merges_to level) not_below)
    | inr above ↦ le-leb from level above ∙ sym (merges_up_to from level above merges)
  ]

  -- where each trace shares its own cluster, and clusters nest
  module _ (itself : (level x : ℕ) → same level x x ≡ true) (up : (level x y : ℕ) → same level x y ≡ true → same (level + 1) x y ≡ true) where
    shared_holds : (level more : ℕ) → same level p q ≡ true → holds_up_from agrees_at level more ≡ true
    shared_holds level zero shared = refl
    shared_holds level (suc more) shared =
        let next : level + 1 ≡ suc level = omega arith in
        and_from (agrees_at level) (holds_up_from agrees_at (suc level) more) (or_left (same level p q) _ shared)
        (shared_holds (suc level) more (ap (λ n. same n p q) (sym next) ∙ up level p q shared))

    -- they share one after it at exactly the levels to which they merge
    pub shares_after : (level : ℕ) → (same level p q || (merges_to level && joins_clusters same level p q (p, q))) ≡ merges_to level
    shares_after level =
        let joins : joins_clusters same level p q (p, q) ≡ true = or_left (same level p p && same level q q) _ (and_from _ _ (itself level p) (itself level q)) in
        either (same level p q) (merges_to level) (joins_clusters same level p q (p, q)) joins (shared_holds level (suc (levels_of clustering) - level))
      where
        either : (one other join : Bool) → join ≡ true → (one ≡ true → other ≡ true) → (one || (other && join)) ≡ other
        either true other join joins implies = sym (implies refl)
        either false true join joins implies = joins
        either false false join joins implies = refl

-- the first level at which a test holds that holds from this level on
first_from : (test : ℕ → Bool) (start level more : ℕ) → start ≤ level → level ≤ more + start → ((n : ℕ) → start ≤ n → nat_le level n ≡ test n) → level ≡ first_level test start more
first_from test start level zero low high tells = omega (arith, low, high)
first_from test start level (suc more) low high tells = elim (cases_lt start level) [
  | inl below ↦
      let fails : test start ≡ false = sym (tells start (omega arith)) ∙ lt-leb level start below in
      first_from test (suc start) level more (omega (arith, below)) (omega (arith, high)) (λ n from. tells n (omega (arith, from)))
      ∙ sym (ap (λ b. cond b start (first_level test (suc start) more)) fails)
  | inr here ↦
      let at : level ≡ start = omega (arith, low, here) in
      let holds : test start ≡ true = sym (tells start (omega arith)) ∙ le-leb level start here in
      at ∙ sym (ap (λ b. cond b start (first_level test (suc start) more)) holds)
]

-- the lowest level to which two traces merge is their level
pub merge_planned : (value : ClusterLevels) (so_far : List (ℕ × ℕ)) (merge : Merge) → 1 ≤ merge.level → merge.level ≤ levels_of (clustering_of value) + 1
    → ((level x : ℕ) → partition (clustering_of value) so_far level x x ≡ true)
    → ((level x y : ℕ) → partition (clustering_of value) so_far level x y ≡ true → partition (clustering_of value) so_far (level + 1) x y ≡ true)
    → merges_down_to (clustering_of value) (partition (clustering_of value) so_far) ((merge.p, merge.q) ∷ so_far) merge.p merge.q merge.level ≡ true
    → ((lower : ℕ) → 1 ≤ lower → suc lower ≡ merge.level → agrees_at (clustering_of value) (partition (clustering_of value) so_far) ((merge.p, merge.q) ∷ so_far) merge.p merge.q lower ≡ false)
    → IsMergeAfter value so_far merge
merge_planned value so_far merge least most itself up merges refused =
    let down = merges_from (clustering_of value) (partition (clustering_of value) so_far) ((merge.p, merge.q) ∷ so_far) merge.p merge.q merge.level most merges refused in
    record {
      level = first_from (λ level. partition (clustering_of value) ((merge.p, merge.q) ∷ so_far) level merge.p merge.q) 1 merge.level (levels_of (clustering_of value)) least most
          (λ n from. down n from ∙ sym (shares_after (clustering_of value) (partition (clustering_of value) so_far) ((merge.p, merge.q) ∷ so_far) merge.p merge.q itself up n));
      down = down;
    }
