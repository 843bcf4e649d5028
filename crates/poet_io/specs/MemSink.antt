-- What a sink in memory is.
use Rattle.std.specs.Prelude.{List, ℕ, []}

-- what it has taken, the numbers of the writes that fail, the most that a write takes, the most
-- that it has room for, how many writes there were, and how many failed
pub record MemSinkState : Type 0 where
  pub taken : List ℕ
  pub fail_at : List ℕ
  pub most : ℕ
  pub room : ℕ
  pub writes : ℕ
  pub faults : ℕ

-- a sink that was never written to
abbrev pub unwritten : (fail_at : List ℕ) (most room : ℕ) → MemSinkState
unwritten fail_at most room =
    record { taken = []; fail_at = fail_at; most = most; room = room; writes = 0; faults = 0 }
