-- A target: its traces and its types.
use Rattle.std.specs.Prelude.{◌≡◌, ℕ, List, length, Some, slice_get}
use Rattle.causal_base.specs.Spelling.{IsName}
use Rattle.causal_base.specs.Types.{TypeTable}

-- the names of the traces, and the types over so many traces
pub record TargetState : Type 0 where
  pub traces : List (List ℕ)
  pub types : TypeTable

-- There is a name for each trace, and the names differ.
pub record AreTraceNames (names : List (List ℕ)) (count : ℕ) : Type 0 where
  pub count_is : length names ≡ count
  pub are_names : (i : ℕ) (name : List ℕ) → slice_get names i ≡ Some name → IsName name
  pub distinct : (i j : ℕ) (name : List ℕ) → slice_get names i ≡ Some name
      → slice_get names j ≡ Some name → i ≡ j
