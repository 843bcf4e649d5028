use Rattle.std.proofs.Common.{◌≡◌, ◌≤◌, ◌+◌, ◌*◌, ℕ, suc, zero, List, [], ◌∷◌, refl, ap, arith, length, drop, Some}
use Rattle.std.specs.Prelude.{slice_get}
use Rattle.causal_base.specs.Clusters.{bound_of}
use Rattle.causal_laws.proofs.entry.bound_by_level.Goals as goal

at_level : (sizes : List ℕ) (level size : ℕ) → slice_get sizes level ≡ Some size → bound_of (drop level sizes) ≡ 1 + size * bound_of (drop (suc level) sizes)
at_level [] level size is = absurd cc
at_level (m ∷ sizes) zero size is = let same : m ≡ size = cc in ap (λ x. 1 + x * bound_of sizes) same
at_level (m ∷ sizes) (suc level) size is = at_level sizes level size is

above_all : (sizes : List ℕ) (level : ℕ) → length sizes ≤ level → bound_of (drop level sizes) ≡ 1
above_all [] zero high = refl
above_all [] (suc level) high = refl
above_all (m ∷ sizes) zero high = absurd (omega arith)
above_all (m ∷ sizes) (suc level) high = above_all sizes level (omega arith)

pub returns-clause-sizes : goal.returns-clause-sizes
returns-clause-sizes c sizes level size is = at_level sizes level size is

pub returns-clause-top : goal.returns-clause-top
returns-clause-top c sizes level high = above_all sizes level high
