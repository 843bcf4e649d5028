-- Refusals, of which the first that applies counts.
use Rattle.std.specs.Prelude.{◌≡◌, ℕ, ◌<◌, ◌⊎◌, List, [], ◌∷◌}

-- refusals in their order, each told by the errors with which it comes
abbrev pub Refusals : Type 0 → Type 1
Refusals Error = List (Error → Type 0)

-- a refusal that comes where this holds, with this one error
abbrev pub refuses : {Error : Type 0} → Type 0 → Error → Error → Type 0
refuses Holds one error = Holds × (error ≡ one)

-- a refusal doesn't apply
abbrev pub IsPassed : {Error : Type 0} → (Error → Type 0) → Type 0
IsPassed {Error} refusal = (error : Error) → refusal error → ⊥

-- none of them applies
abbrev pub ArePassed : {Error : Type 0} → Refusals Error → Type 0
ArePassed [] = Unit {0}
ArePassed (refusal ∷ refusals) = IsPassed refusal × ArePassed refusals

-- the error is that of the first of them that applies
abbrev pub IsFirst : {Error : Type 0} → Refusals Error → Error → Type 0
IsFirst [] error = ⊥
IsFirst (refusal ∷ refusals) error = refusal error ⊎ (IsPassed refusal × IsFirst refusals error)

-- The number is the least of those below a count that have a property.
pub record IsLeast (count : ℕ) (Has : ℕ → Type 0) (i : ℕ) : Type 0 where
  pub below : i < count
  pub has : Has i
  pub none_before : (j : ℕ) → j < i → Has j → ⊥
