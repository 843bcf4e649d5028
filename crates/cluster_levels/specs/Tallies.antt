-- A square table of counts.
use Rattle.std.specs.Prelude.{ℕ, ◌+◌, ◌-◌, ◌*◌, ◌^◌, min, List, slice_index}

-- So many rows and columns, row after row.
pub record TallyTable : Type 0 where
  pub width : ℕ
  pub numbers : List ℕ

-- the count in a row and a column
abbrev pub tally : TallyTable → ℕ → ℕ → ℕ
tally table row column = slice_index table.numbers (row * table.width + column)

-- what a count of 32 bits tells of a number: it saturates
abbrev pub counted : ℕ → ℕ
counted n = min n (2 ^ 32 - 1)
