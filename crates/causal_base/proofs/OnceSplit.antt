use Rattle.std.proofs.Common.{◌≡◌, ◌≢◌, ℕ, List, [], ◌∷◌, ◌++◌, All, sym, subst, refl, ◌∙◌}
use Rattle.std.specs.List.{AllByRecursion}
use Rattle.std.proofs.lemmas.List.Elements.{recursion_from_All}
use Rattle.causal_base.specs.Fields.{SplitsOnce}

-- what stands before a first separator determines what stands after it, and is itself determined
fronts_same : (c : ℕ) (front other rest more : List ℕ) → AllByRecursion (λ b. b ≢ c) front → AllByRecursion (λ b. b ≢ c) other → front ++ c ∷ rest ≡ other ++ c ∷ more → (front ≡ other) × (rest ≡ more)
fronts_same c [] [] rest more h k e = (cc, cc)
fronts_same c [] (b ∷ bs) rest more h k e = absurd (k.0 (cc))
fronts_same c (b ∷ bs) [] rest more h k e = absurd (h.0 (cc))
fronts_same c (b ∷ bs) (d ∷ ds) rest more h k e =
    let tails : bs ++ c ∷ rest ≡ ds ++ c ∷ more = cc in
    let same : (bs ≡ ds) × (rest ≡ more) = fronts_same c bs ds rest more h.1 k.1 tails in
    let heads : b ≡ d = cc in (cc, same.1)

-- bytes can be split in one way only
pub split_in_one_way : (c : ℕ) (bytes front rest other more : List ℕ) → SplitsOnce c bytes front rest → SplitsOnce c bytes other more → (front ≡ other) × (rest ≡ more)
split_in_one_way c bytes front rest other more h k =
    fronts_same c front other rest more (recursion_from_All (λ b. b ≢ c) front h.first) (recursion_from_All (λ b. b ≢ c) other k.first) (sym h.whole ∙ k.whole)

-- bytes without a separator have it nowhere
none_within : (c : ℕ) (front rest : List ℕ) → AllByRecursion (λ b. b ≢ c) (front ++ c ∷ rest) → ⊥
none_within c [] rest h = h.0 refl
none_within c (b ∷ bs) rest h = none_within c bs rest h.1

pub has_none : (c : ℕ) (bytes front rest : List ℕ) → All (λ b. b ≢ c) bytes → bytes ≡ front ++ c ∷ rest → ⊥
has_none c bytes front rest none has =
    none_within c front rest (recursion_from_All (λ b. b ≢ c) (front ++ c ∷ rest) (subst (All (λ b. b ≢ c)) has none))

-- so they can't be split
pub unsplit : (c : ℕ) (bytes front rest : List ℕ) → All (λ b. b ≢ c) bytes → SplitsOnce c bytes front rest → ⊥
unsplit c bytes front rest none cut = has_none c bytes front rest none cut.whole
