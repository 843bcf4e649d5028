-- What is wrong with the traces of a document.
use Rattle.std.specs.Prelude.{◌≡◌, ℕ, ◌<◌, ◌-◌, ◌^◌, min, List, [], ◌∷◌, length, Some, slice_get}
use Rattle.causal_base.specs.declared.limits.TheConstants.{MOST_TRACES}
use Rattle.causal_base.specs.Spelling.{IsName}
use Rattle.target_desc.specs.declared.target_error.TargetError.{TargetError}
use Rattle.target_desc.specs.declared.target_error.TargetError.TheVariants.{NoTraces, TooManyTraces, BadTrace, TwiceTrace}
use Rattle.causal_base.specs.Refusals.{Refusals, IsLeast}
use Rattle.toml.specs.Data.{Data, string}

-- how many there are, where the number is told in 32 bits; it stands still at their last value
abbrev pub count_told : List Data → ℕ
count_told items = min (length items) (2 ^ 32 - 1)

-- the trace with this number isn't a string that is a name
abbrev pub IsBadTrace : List Data → ℕ → Type 0
IsBadTrace traces i = (name : List ℕ) → slice_get traces i ≡ Some (string name) → IsName name → ⊥

-- an earlier trace is the same
abbrev pub IsTwiceTrace : List Data → ℕ → Type 0
IsTwiceTrace traces i = (j : ℕ) × (j < i) × (slice_get traces j ≡ slice_get traces i)

-- There are none, or too many, or one is no name, or is there twice.
abbrev pub trace_refusals : List Data → Refusals TargetError
trace_refusals traces =
    (λ error. (traces ≡ []) × (error ≡ NoTraces))
    ∷ (λ error. (MOST_TRACES < length traces) × (error ≡ TooManyTraces (count_told traces)))
    ∷ (λ error. (i : ℕ) × IsLeast (length traces) (IsBadTrace traces) i × (error ≡ BadTrace i))
    ∷ (λ error. (i : ℕ) × IsLeast (length traces) (IsTwiceTrace traces) i × (error ≡ TwiceTrace i))
    ∷ []
