-- What a sink is to a contract.
use Rattle.std.specs.Prelude.{ℕ, List, Option}

-- how often it failed, and all bytes that it has taken so far, where it tells them
pub record SinkState : Type 0 where
  pub faults : ℕ
  pub taken : Option (List ℕ)
