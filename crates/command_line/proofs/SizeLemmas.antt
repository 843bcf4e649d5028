-- Sizes that are refused, and those that aren't.
use Rattle.std.proofs.Common.{ℕ, ◌<◌, List, length, ap, arith}
use Rattle.causal_base.specs.Refusals.{IsFirst}
use Rattle.causal_base.proofs.CallerLemmas.{passed_first}
use Rattle.cluster_levels.specs.Sizes.{AreSizes, size_refusals, sizes_refusals}
use Rattle.cluster_levels.specs.declared.sizes_error.SizesError.{SizesError}

-- sizes aren't refused
pub not_refused : (sizes : List ℕ) (error : SizesError) → AreSizes sizes → IsFirst (sizes_refusals sizes) error → ⊥
not_refused sizes error are first = passed_first (sizes_refusals sizes) error (
  (λ one holds. absurd (omega (arith, ap length holds.0, are.some))),
  (
    (λ one holds. omega (arith, holds.0, are.most)),
    ((λ one holds. never holds.0 holds.1.below one holds.2), tt),
  ),
) first
  where
    never : (i : ℕ) → i < length sizes → (one : SizesError) → IsFirst (size_refusals sizes i) one → ⊥
    never i within one refused = passed_first (size_refusals sizes i) one (
      (λ other holds. omega (arith, holds.0, are.rising i within)),
      ((λ other holds. omega (arith, holds.0, are.small i within)), tt),
    ) refused
