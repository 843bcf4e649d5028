-- What a source is to a contract.
use Rattle.std.specs.Prelude.{ℕ, List, Option}

-- how often it failed, and the bytes that are left to be read and the name that it was opened by,
-- where it tells them
pub record SourceState : Type 0 where
  pub faults : ℕ
  pub left : Option (List ℕ)
  pub name : Option (List ℕ)
