-- What may stand between `replay` and its target.
use Rattle.std.specs.Prelude.{◌≡◌, ℕ, ◌≤◌, ◌⊎◌, List, [], ◌∷◌, codes, decimal}
use Rattle.command_line.specs.SizeLists.{IsSizeList}
use Rattle.command_line.specs.declared.limits.TheConstants.{MOST_AFTER}

-- the first of the words isn't this one, or there are none
abbrev pub BeginsOtherwise : List (List ℕ) → List ℕ → Type 0
BeginsOtherwise words word = (rest : List (List ℕ)) → words ≡ word ∷ rest → ⊥

-- The words are `--levels`, a list of sizes, and the rest.
pub record NamesLevels (words rest : List (List ℕ)) (sizes : List ℕ) : Type 0 where
  pub list : List ℕ
  pub are : words ≡ codes "--levels" ∷ list ∷ rest
  pub is_list : IsSizeList list sizes

-- The words don't begin with `--levels`, so all of them are the rest, and the sizes are 8 and 32.
pub record LacksLevels (words rest : List (List ℕ)) (sizes : List ℕ) : Type 0 where
  pub otherwise : BeginsOtherwise words (codes "--levels")
  pub all : rest ≡ words
  pub default : sizes ≡ 8 ∷ 32 ∷ []

-- the words may begin with the sizes of the levels, and go on with the rest
abbrev pub TakesLevels : (words rest : List (List ℕ)) → (sizes : List ℕ) → Type 0
TakesLevels words rest sizes = NamesLevels words rest sizes ⊎ LacksLevels words rest sizes

-- The text is this number in decimal, which is from 1 to 1,000.
pub record IsAfter (text : List ℕ) (after : ℕ) : Type 0 where
  pub spelled : text ≡ decimal after
  pub least : 1 ≤ after
  pub most : after ≤ MOST_AFTER

-- The words are `--after`, a number from 1 to 1,000, and the rest.
pub record NamesAfter (words rest : List (List ℕ)) (after : ℕ) : Type 0 where
  pub number : List ℕ
  pub are : words ≡ codes "--after" ∷ number ∷ rest
  pub is_number : IsAfter number after

-- The words don't begin with `--after`, so all of them are the rest, and the number is 1.
pub record LacksAfter (words rest : List (List ℕ)) (after : ℕ) : Type 0 where
  pub otherwise : BeginsOtherwise words (codes "--after")
  pub all : rest ≡ words
  pub default : after ≡ 1

-- the words may begin with the number from which on clusters may merge, and go on with the rest
abbrev pub TakesAfter : (words rest : List (List ℕ)) → (after : ℕ) → Type 0
TakesAfter words rest after = NamesAfter words rest after ⊎ LacksAfter words rest after
