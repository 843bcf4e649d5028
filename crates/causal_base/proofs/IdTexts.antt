use Rattle.std.proofs.Common.{◌≡◌, ℕ, List, All, refl, sym, ◌∙◌, inl, inr, arith}
use Rattle.std.specs.Prelude.{decimal}
use Rattle.std.proofs.lemmas.Fmt.{decimal_injective}
use Rattle.causal_base.specs.Spelling.{IsNumber, IsId}
use Rattle.causal_base.specs.declared.event_id.EventId.{EventId}
use Rattle.causal_base.specs.declared.fields.IdFault.{IdFault}
use Rattle.causal_base.specs.declared.fields.IdFault.TheVariants.{BadId, NoTrace, BadNumber}
use Rattle.causal_base.specs.Fields.{HasIdFault, SplitsOnce, IsIdInRange, IsNoId}
use Rattle.causal_base.proofs.OnceSplit.{split_in_one_way, unsplit}
use Rattle.causal_base.proofs.Decimals.{below_two_to_64, decimal_lacks}

-- bytes spell at most one number
pub number_once : (bytes : List ℕ) (m n : ℕ) → IsNumber bytes m → IsNumber bytes n → m ≡ n
number_once bytes m n h k =
    decimal_injective m n (below_two_to_64 m h.small) (below_two_to_64 n k.small) (sym h.spelled ∙ k.spelled)

-- an id is split at its full stop
pub id_is_split : (bytes : List ℕ) (trace number : ℕ) → IsId bytes trace number → SplitsOnce 46 bytes (decimal trace) (decimal number)
id_is_split bytes trace number id = record {
  whole = id.spelled;
  first = decimal_lacks 46 trace id.small_trace (λ h. omega (arith, h));
}

-- bytes without a full stop are no id
pub no_id_unsplit : (bytes : List ℕ) → All (λ b. b ≡ 46 → ⊥) bytes → IsNoId bytes
no_id_unsplit bytes none trace number id = unsplit 46 bytes _ _ none (id_is_split bytes trace number id)

-- what stands before and after the full stop of an id are its numbers
pub id_has_numbers : (bytes front rest : List ℕ) (trace number : ℕ) → SplitsOnce 46 bytes front rest → IsId bytes trace number → IsNumber front trace × IsNumber rest number
id_has_numbers bytes front rest trace number cut id =
    let same = split_in_one_way 46 bytes front rest (decimal trace) (decimal number) cut (id_is_split bytes trace number id) in
    (record { small = id.small_trace; spelled = same.0 }, record { small = id.small_number; spelled = same.1 })

-- bytes are one id at most
pub id_once : (bytes : List ℕ) (trace number other another : ℕ) → IsId bytes trace number → IsId bytes other another → (trace ≡ other) × (number ≡ another)
id_once bytes trace number other another id same =
    let numbers = id_has_numbers bytes (decimal trace) (decimal number) other another (id_is_split bytes trace number id) same in
    (number_once (decimal trace) trace other (record { small = id.small_trace; spelled = refl }) numbers.0, number_once (decimal number) number another (record { small = id.small_number; spelled = refl }) numbers.1)

-- bytes with a fault are no id in range
pub fault_excludes : (bytes : List ℕ) (traces : ℕ) (id : EventId) (fault : IdFault) → IsIdInRange bytes traces id → HasIdFault bytes traces fault → ⊥
fault_excludes bytes traces id BadId range fault = fault id.trace id.number range.is_id
fault_excludes bytes traces id NoTrace range fault =
    let same = id_once bytes id.trace id.number fault.trace fault.number range.is_id fault.is_id in omega (arith, same.0, range.trace, fault.beyond)
fault_excludes bytes traces id BadNumber range fault =
    let same : (id.trace ≡ fault.trace) × (id.number ≡ fault.number) = id_once bytes id.trace id.number fault.trace fault.number range.is_id fault.is_id in
    elim fault.beyond [ inl zero ↦ omega (arith, same.1, zero, range.least) | inr many ↦ omega (arith, same.1, many, range.most) ]
