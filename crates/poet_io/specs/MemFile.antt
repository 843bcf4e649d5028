-- What an open file in memory is.
use Rattle.std.specs.Prelude.{List, ℕ}
use Rattle.poet_io.specs.MemSource.{MemSourceState}

-- the name that it was opened by, and what is read
pub record MemFileState : Type 0 where
  pub name : List ℕ
  pub source : MemSourceState
