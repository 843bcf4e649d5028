-- What writing a text makes of a sink.
use Rattle.std.specs.Prelude.{◌≡◌, ℕ, List, Result, MatchResult}
use Rattle.poet_io.specs.Faults.{IsRaised}
use Rattle.poet_io.specs.Grows.{Grows, GrowsByPrefix}
use Rattle.poet_io.specs.SinkState.{SinkState}

-- All of the text was taken, and no write failed.
pub record IsWritten (before after : SinkState) (text : List ℕ) : Type 0 where
  pub all : Grows before.taken after.taken text
  pub no_fault : after.faults ≡ before.faults

-- A write failed, and a prefix of the text was taken.
pub record IsCutShort (before after : SinkState) (text : List ℕ) : Type 0 where
  pub part : GrowsByPrefix before.taken after.taken text
  pub fault : IsRaised before.faults after.faults

-- The text was written, or it was cut short where the writer answers an error.
abbrev pub Writes : {T E : Type 0} → SinkState → SinkState → List ℕ → Result T E → Type 0
Writes before after text result = MatchResult result
    (λ _. IsWritten before after text) (λ _. IsCutShort before after text)
