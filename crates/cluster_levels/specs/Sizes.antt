-- The sizes of the levels, and what is wrong with a list of them.
use Rattle.std.specs.Prelude.{◌≡◌, ℕ, ◌<◌, ◌≤◌, List, [], ◌∷◌, length, slice_index}
use Rattle.causal_base.specs.Refusals.{Refusals, refuses, IsFirst, IsLeast}
use Rattle.cluster_levels.specs.declared.limits.TheConstants.{MOST_LEVELS, MOST_SIZE}
use Rattle.cluster_levels.specs.declared.sizes_error.SizesError.{SizesError}
use Rattle.cluster_levels.specs.declared.sizes_error.SizesError.TheVariants.{NoLevel, TooManyLevels, NotRising, TooLarge}

-- the size before this one; 0 stands before the first
abbrev pub size_before : List ℕ → ℕ → ℕ
size_before sizes i = slice_index (0 ∷ sizes) i

-- There are 1 to 4 sizes, which rise from above 0 to at most 256.
pub record AreSizes (sizes : List ℕ) : Type 0 where
  pub some : 1 ≤ length sizes
  pub most : length sizes ≤ MOST_LEVELS
  pub rising : (i : ℕ) → i < length sizes → size_before sizes i < slice_index sizes i
  pub small : (i : ℕ) → i < length sizes → slice_index sizes i ≤ MOST_SIZE

-- A size isn't above the one before, or is too large.
abbrev pub size_refusals : List ℕ → ℕ → Refusals SizesError
size_refusals sizes i =
    refuses (slice_index sizes i ≤ size_before sizes i) (NotRising i)
    ∷ refuses (MOST_SIZE < slice_index sizes i) (TooLarge i)
    ∷ []

-- one of them applies to this size
abbrev pub IsRefusedSize : List ℕ → ℕ → Type 0
IsRefusedSize sizes i = (error : SizesError) × IsFirst (size_refusals sizes i) error

-- There are none, or too many, or the first that is refused alone has this error.
abbrev pub sizes_refusals : List ℕ → Refusals SizesError
sizes_refusals sizes =
    refuses (sizes ≡ []) NoLevel
    ∷ refuses (MOST_LEVELS < length sizes) TooManyLevels
    ∷ (λ error. (i : ℕ) × IsLeast (length sizes) (IsRefusedSize sizes) i
    × IsFirst (size_refusals sizes i) error)
    ∷ []
