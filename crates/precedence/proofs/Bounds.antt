-- The bound on steps, level by level.
use Rattle.std.proofs.Common.{◌≡◌, ◌≤◌, ◌<◌, ◌+◌, ◌*◌, ◌-◌, ℕ, zero, suc, List, [], ◌∷◌, length, drop, ◌∙◌, ap, subst, arith}
use Rattle.std.specs.Prelude.{slice_index}
use Rattle.std.proofs.Math.Nat.{mul-le-mul_right}
use Rattle.std.proofs.lemmas.Option.{slice_get-get_or}
use Rattle.causal_base.specs.Clusters.{bound_of}
use Rattle.precedence.specs.StampedJournal.{StampedJournal}
use Rattle.precedence.specs.Laws.{HasLaws}
use Rattle.precedence.specs.Walking.{bound_from}

pub bound_of-some : (sizes : List ℕ) → 1 ≤ bound_of sizes
bound_of-some [] = omega arith
bound_of-some (m ∷ sizes) = omega arith

pub bound_from-some : (w : StampedJournal) (level : ℕ) → 1 ≤ bound_from w level
bound_from-some w level = bound_of-some (drop (level - 1) w.clustering.sizes)

some_times : (m b : ℕ) → 1 ≤ m → b ≤ m * b
some_times m b some = let times = mul-le-mul_right {m = 1} {n = m} b some in omega (arith, times)

-- one level more takes no more
one_level : (sizes : List ℕ) → ((i : ℕ) → i < length sizes → 1 ≤ slice_index sizes i) → (i : ℕ) → bound_of (drop (suc i) sizes) ≤ bound_of (drop i sizes)
one_level [] some zero = omega arith
one_level [] some (suc i) = omega arith
one_level (m ∷ sizes) some zero = let least = some_times m (bound_of sizes) (some 0 (omega arith)) in omega (arith, least)
one_level (m ∷ sizes) some (suc i) = one_level sizes (λ j within. some (suc j) (omega (arith, within))) i

levels_more : (sizes : List ℕ) → ((i : ℕ) → i < length sizes → 1 ≤ slice_index sizes i) → (i more : ℕ) → bound_of (drop (more + i) sizes) ≤ bound_of (drop i sizes)
levels_more sizes some i zero = subst (λ (k : ℕ). bound_of (drop k sizes) ≤ bound_of (drop i sizes)) (let same : i ≡ zero + i = omega arith in same) (omega arith)
levels_more sizes some i (suc more) =
    let step = one_level sizes some (more + i) in
    let rest = levels_more sizes some i more in
    let same : ◌≡◌ {A = ℕ} (suc (more + i)) (suc more + i) = omega arith in
    subst (λ (k : ℕ). bound_of (drop k sizes) ≤ bound_of (drop i sizes)) same (omega (arith, step, rest))

-- from a greater level on it takes no more
pub bound_from-falls : (w : StampedJournal) (level above : ℕ) → level ≤ above → bound_from w above ≤ bound_from w level
bound_from-falls w level above le =
    let same : ((above - 1) - (level - 1)) + (level - 1) ≡ above - 1 = omega (arith, le) in
    subst (λ (k : ℕ). bound_of (drop k w.clustering.sizes) ≤ bound_from w level) same (levels_more w.clustering.sizes w.some (level - 1) ((above - 1) - (level - 1)))

-- at a level with a size
pub bound_from-size : (w : StampedJournal) → HasLaws w → (level : ℕ) → 1 ≤ level → level ≤ length w.clustering.sizes → bound_from w level ≡ 1 + slice_index w.clustering.sizes (level - 1) * bound_from w (level + 1)
bound_from-size w laws level least most =
    let size = slice_index w.clustering.sizes (level - 1) in
    let there = slice_get-get_or w.clustering.sizes (level - 1) 0 (omega (arith, least, most)) in
    let same : ◌≡◌ {A = ℕ} (suc (level - 1)) ((level + 1) - 1) = omega (arith, least) in
    laws.bound_sizes w.clustering.sizes (level - 1) size there ∙ ap (λ (k : ℕ). 1 + size * bound_of (drop k w.clustering.sizes)) same
