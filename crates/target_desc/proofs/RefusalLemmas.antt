-- The least number with a property.
use Rattle.std.proofs.Common.{◌≡◌, ℕ, ◌<◌, arith}
use Rattle.causal_base.specs.Refusals.{IsLeast}

-- the least number with a property has each that says the same
pub least_same : (count other : ℕ) (Has Also : ℕ → Type 0) (i : ℕ) → count ≡ other → ((j : ℕ) → j < count → Has j → Also j) → ((j : ℕ) → j < count → Also j → Has j)
    → IsLeast count Has i → IsLeast other Also i
least_same count other Has Also i same there back least = record {
  below = omega (arith, least.below, same);
  has = there i least.below least.has;
  none_before = λ j before also. least.none_before j before (back j (omega (arith, before, least.below)) also);
}
