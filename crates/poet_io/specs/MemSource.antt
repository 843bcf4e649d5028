-- What a source in memory is.
use Rattle.std.specs.Prelude.{List, ℕ}

-- the bytes that are left, the numbers of the reads that fail, how many reads there were, and how
-- many failed
pub record MemSourceState : Type 0 where
  pub left : List ℕ
  pub fail_at : List ℕ
  pub reads : ℕ
  pub faults : ℕ

-- a source with these bytes that was never read
abbrev pub unread : (bytes fail_at : List ℕ) → MemSourceState
unread bytes fail_at = record { left = bytes; fail_at = fail_at; reads = 0; faults = 0 }
