-- What text that is gathered on its way to a sink makes of the sink and of what is gathered.
use Rattle.std.specs.Prelude.{◌≡◌, ℕ, List, ◌++◌, Result, MatchResult}
use Rattle.poet_io.specs.SinkState.{SinkState}
use Rattle.poet_io.specs.Writes.{IsWritten, IsCutShort}

-- Of this text all was written but its end, which is gathered.
pub record HasCome (start now : SinkState) (gathered text : List ℕ) : Type 0 where
  pub written : List ℕ
  pub whole : text ≡ written ++ gathered
  pub is_written : IsWritten start now written

-- One more text came behind any text: it was written or is gathered; or a write failed, and the
-- two are cut short.
abbrev pub Gathers : {T E : Type 0} → (before : SinkState) (gathered : List ℕ) (after : SinkState) (gathering : List ℕ) (more : List ℕ) → Result T E → Type 0
Gathers before gathered after gathering more result = MatchResult result
    (λ _. (start : SinkState) (text : List ℕ) → HasCome start before gathered text → HasCome start after gathering (text ++ more))
    (λ _. (start : SinkState) (text : List ℕ) → HasCome start before gathered text → IsCutShort start after (text ++ more))
