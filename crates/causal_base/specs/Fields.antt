use Rattle.std.specs.Prelude.{◌≡◌, ◌≢◌, ℕ, ◌<◌, ◌≤◌, ◌⊎◌, List, ◌∷◌, ◌++◌, All}
use Rattle.causal_base.specs.declared.event_id.EventId.{EventId}
use Rattle.causal_base.specs.declared.fields.IdFault.{IdFault}
use Rattle.causal_base.specs.declared.fields.IdFault.TheVariants.{BadId, NoTrace, BadNumber}
use Rattle.causal_base.specs.declared.limits.TheConstants.{MOST_NUMBER}
use Rattle.causal_base.specs.Spelling.{IsId}

-- The bytes are the front, then the separator, and then the rest, and the front is without that
-- separator.
pub record SplitsOnce (separator : ℕ) (bytes front rest : List ℕ) : Type 0 where
  pub whole : bytes ≡ front ++ separator ∷ rest
  pub first : All (λ byte. byte ≢ separator) front

-- the bytes are no id, in range or not
abbrev pub IsNoId : List ℕ → Type 0
IsNoId bytes = (trace number : ℕ) → IsId bytes trace number → ⊥

-- The bytes are this id, which is of one of so many traces and has a number from 1 to 1,000,000.
pub record IsIdInRange (bytes : List ℕ) (traces : ℕ) (id : EventId) : Type 0 where
  pub is_id : IsId bytes id.trace id.number
  pub trace : id.trace < traces
  pub least : 1 ≤ id.number
  pub most : id.number ≤ MOST_NUMBER

-- The bytes are an id of a trace that is none of so many.
pub record NamesNoTrace (bytes : List ℕ) (traces : ℕ) : Type 0 where
  pub trace : ℕ
  pub number : ℕ
  pub is_id : IsId bytes trace number
  pub beyond : traces ≤ trace

-- The bytes are an id of one of so many traces, and its number isn't from 1 to 1,000,000.
pub record NamesNoNumber (bytes : List ℕ) (traces : ℕ) : Type 0 where
  pub trace : ℕ
  pub number : ℕ
  pub is_id : IsId bytes trace number
  pub among : trace < traces
  pub beyond : (number ≡ 0) ⊎ (MOST_NUMBER < number)

-- what is wrong with bytes that are no id in range
abbrev pub HasIdFault : List ℕ → ℕ → IdFault → Type 0
HasIdFault bytes traces BadId = IsNoId bytes
HasIdFault bytes traces NoTrace = NamesNoTrace bytes traces
HasIdFault bytes traces BadNumber = NamesNoNumber bytes traces
