-- Names that stand in a list.
use Rattle.std.specs.Prelude.{◌≡◌, ℕ, ◌<◌, List, slice_get}

-- an earlier name is the same
abbrev pub IsTwiceName : List (List ℕ) → ℕ → Type 0
IsTwiceName names i = (j : ℕ) × (j < i) × (slice_get names j ≡ slice_get names i)
