use Rattle.std.specs.Prelude.{◌≡◌, ℕ, ◌/◌, ◌%◌, List, slice_index}
use Rattle.std.specs.Int.{bit_at}

-- the trace is in the set whose words these are: its bit stands
abbrev pub IsIn : List ℕ → ℕ → Type 0
IsIn words trace = bit_at (slice_index words (trace / 64)) (trace % 64) ≡ 1
