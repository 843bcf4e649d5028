use Rattle.std.specs.Prelude.{◌≡◌, ℕ, List, map, slice_index, slice_get, Some}
use Rattle.causal_base.specs.Stamps.{ClusterTimestamp}

-- what a clock has for these traces
abbrev pub numbers_for : List ℕ → List ℕ → List ℕ
numbers_for clock traces = map (λ trace. slice_index clock trace) traces

-- the stamp of a level that keeps of a clock what it has for these members
abbrev pub projected : ℕ → List ℕ → List ℕ → ClusterTimestamp
projected level members clock =
    record { level = level; members = members; clock = numbers_for clock members }

-- The trace is a member of the stamp, and this is its number there.
pub record IsPart (stamp : ClusterTimestamp) (trace number : ℕ) : Type 0 where
  pub at : ℕ
  pub member : slice_get stamp.members at ≡ Some trace
  pub number_is : slice_get stamp.clock at ≡ Some number
