-- Sizes of levels, and their bound.
use Rattle.std.proofs.Common.{◌≡◌, ◌+◌, ◌*◌, ◌^◌, ◌<◌, ◌≤◌, ℕ, suc, zero, inl, inr, List, [], ◌∷◌, length, drop, ◌-◌, refl, arith, get_or, length-drop}
use Rattle.std.proofs.lemmas.List.{get_or-drop}
use Rattle.std.proofs.lemmas.Bool.{cases_lt}
use Rattle.std.proofs.Math.Nat.{mul-le-mul, pow-suc}
use Rattle.causal_base.specs.Clusters.{bound_of}
use Rattle.causal_base.specs.Refusals.{ArePassed}
use Rattle.cluster_levels.specs.declared.limits.TheConstants.{MOST_LEVELS, MOST_SIZE}
use Rattle.cluster_levels.specs.declared.sizes_error.SizesError.TheVariants.{NotRising, TooLarge}
use Rattle.cluster_levels.specs.Sizes.{AreSizes, size_before, size_refusals}

power_some : (n : ℕ) → 1 ≤ 257 ^ n
power_some zero = omega arith
power_some (suc n) = omega (arith, power_some n, pow-suc 257 n)

-- the bound for few sizes that are small
pub bound_small : (sizes : List ℕ) (n : ℕ) → length sizes ≤ n → ((i : ℕ) → i < length sizes → get_or sizes i 0 ≤ 256) → bound_of sizes ≤ 257 ^ n
bound_small [] n few small = power_some n
bound_small (size ∷ sizes) zero few small = absurd (omega (arith, few))
bound_small (size ∷ sizes) (suc n) few small =
    let rest = bound_small sizes n (omega (arith, few)) (λ i within. small (suc i) (omega (arith, within))) in
    let here : size ≤ 256 = small 0 (omega arith) in
    let most = mul-le-mul here rest in
    omega (arith, most, power_some n, pow-suc 257 n)

-- sizes of which none is refused
pub good_sizes : (sizes : List ℕ) → 1 ≤ length sizes → length sizes ≤ MOST_LEVELS → ((i : ℕ) → i < length sizes → ArePassed (size_refusals sizes i)) → AreSizes sizes
good_sizes sizes some most each = record {
  some = some;
  most = most;
  rising = λ i within. elim (cases_lt (size_before sizes i) (get_or sizes i 0)) [
    | inl rises ↦ rises
    | inr falls ↦ absurd ((each i within).0 (NotRising i) (falls, refl))
  ];
  small = λ i within. elim (cases_lt MOST_SIZE (get_or sizes i 0)) [
    | inl large ↦ absurd ((each i within).1.0 (TooLarge i) (large, refl))
    | inr small ↦ small
  ];
}

-- one size more doesn't bring the bound above 64 bits
pub next_product : (sizes : List ℕ) (left bound : ℕ) → AreSizes sizes → 0 < left → left ≤ length sizes → bound ≡ bound_of (drop left sizes) → get_or sizes (left - 1) 0 * bound ≤ 256 * 16974593
next_product sizes left bound are some within is =
    let few : length (drop left sizes) ≤ 3 = omega (arith, length-drop left sizes, are.most, some) in
    let small = bound_small (drop left sizes) 3 few (λ i inside. let there : left + i < length sizes = omega (arith, inside, length-drop left sizes) in rw (get_or-drop left sizes i 0) (are.small (left + i) there)) in
    let most : bound ≤ 16974593 = omega (arith, is, small) in
    mul-le-mul (are.small (left - 1) (omega (arith, some, within))) most
