-- How an end is told.
use Rattle.std.specs.Prelude.{ℕ}
use Rattle.poet_io.specs.SinkState.{SinkState}
use Rattle.poet_top.specs.Outcome.{Outcome, IsTold}

-- there is an outcome with which it ends so, and it was told
abbrev pub IsToldOf : (Outcome → Type 0) → (status : ℕ) → SinkState → SinkState → Type 0
IsToldOf Ends status before after =
    (outcome : Outcome) × Ends outcome × IsTold outcome status before after
