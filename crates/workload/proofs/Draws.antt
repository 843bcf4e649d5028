-- The first draws from 1, as they were worked out by hand.
use Rattle.std.proofs.Common.{◌≡◌, ℕ, zero, suc, List, [], ◌∷◌, refl}
use Rattle.workload.specs.Workload.{drawn}

-- so many draws, one after the other
abbrev draws : ℕ → ℕ → List ℕ
draws zero x = []
draws (suc more) x = drawn x ∷ draws more (drawn x)

pub first_draws : draws 8 1 ≡ 149 ∷ 11249 ∷ 57305 ∷ 38044 ∷ 35283 ∷ 24819 ∷ 26463 ∷ 18689 ∷ []
first_draws = refl
