-- A script is one list of commands, or it has one first fault.
use Rattle.std.proofs.Common.{◌≡◌, ◌<◌, ◌≤◌, ◌+◌, ℕ, inl, inr, Bool, List, [], ◌∷◌, ◌++◌, length, refl, sym, ap, subst, ◌∙◌, append-nil, append_assoc, arith}
use Rattle.std.specs.List.{AllByRecursion}
use Rattle.causal_base.specs.Types.{TypeTable}
use Rattle.causal_base.specs.TypeTables.{IsTypeTable}
use Rattle.causal_base.proofs.CallerLemmas.{has_none, split_in_one_way}
use Rattle.client_session.specs.declared.command.Command.{Command}
use Rattle.client_session.specs.declared.limits.TheConstants.{MOST_COMMANDS}
use Rattle.client_session.specs.declared.script_error.ScriptCause.{ScriptCause}
use Rattle.client_session.specs.declared.script_error.ScriptError.{ScriptError}
use Rattle.client_session.specs.Commands.{MayStand, command_text}
use Rattle.client_session.specs.Scripts.{HasFaultAfter, IsLineCause, IsRefused, IsRestCause, IsScript, text_of_commands}
use Rattle.file_laws.proofs.CausesOnce.{rest_cause_once}
use Rattle.file_laws.proofs.CommandLines.{command_is_line, command_once, no_line_cause}

-- The bytes begin with the line of a command that may stand.
record BeginsWithCommand (types : TypeTable) (closing : Bool) (bytes : List ℕ) : Type 0 where
  pub command : Command
  pub may : MayStand types closing command
  pub rest : List ℕ
  pub is : bytes ≡ command_text command ++ 10 ∷ rest

-- the first command's line, and what stands behind it
text_of_first : (command : Command) (commands : List Command) (rest : List ℕ) → text_of_commands (command ∷ commands) ++ rest ≡ command_text command ++ 10 ∷ (text_of_commands commands ++ rest)
text_of_first command commands rest =
    append_assoc (command_text command ++ 10 ∷ []) (text_of_commands commands) rest ∙ append_assoc (command_text command) (10 ∷ []) (text_of_commands commands ++ rest)

-- bytes are commands and a rest in one way, where the rest behind the fewer commands begins with no
-- command's line
commands_once : (types : TypeTable) (closing : Bool) → IsTypeTable types → (commands others : List Command) (rest more : List ℕ) → AllByRecursion (MayStand types closing) commands → AllByRecursion (MayStand types closing) others
    → text_of_commands commands ++ rest ≡ text_of_commands others ++ more → (length commands < length others → BeginsWithCommand types closing rest → ⊥) → (length others < length commands → BeginsWithCommand types closing more → ⊥)
    → (commands ≡ others) × (rest ≡ more)
commands_once types closing table [] [] rest more may also same ends other_ends = (refl, same)
commands_once types closing table [] (b ∷ others) rest more may also same ends other_ends =
    absurd (ends (omega arith) (record { command = b; may = also.0; rest = text_of_commands others ++ more; is = same ∙ text_of_first b others more }))
commands_once types closing table (a ∷ commands) [] rest more may also same ends other_ends =
    absurd (other_ends (omega arith) (record { command = a; may = may.0; rest = text_of_commands commands ++ rest; is = sym same ∙ text_of_first a commands rest }))
commands_once types closing table (a ∷ commands) (b ∷ others) rest more may also same ends other_ends =
    let cuts = split_in_one_way 10 (text_of_commands (a ∷ commands) ++ rest) (command_text a) (text_of_commands commands ++ rest) (command_text b) (text_of_commands others ++ more)
    (record { whole = text_of_first a commands rest; first = command_is_line types closing a table may.0 })
    (record { whole = same ∙ text_of_first b others more; first = command_is_line types closing b table also.0 }) in
    let first : a ≡ b = command_once types closing a b table may.0 also.0 cuts.0 in
    let later : (commands ≡ others) × (rest ≡ more) = commands_once types closing table commands others rest more may.1 also.1 cuts.1
    (λ fewer. ends (omega (arith, fewer))) (λ fewer. other_ends (omega (arith, fewer))) in
    (ap (λ c. c ∷ commands) first ∙ ap (λ cs. b ∷ cs) later.0, later.1)

-- a rest with a fault begins with no command's line, at one of the first 10,000 places
fault_ends : (types : TypeTable) (closing : Bool) (number : ℕ) (rest : List ℕ) (cause : ScriptCause) → IsTypeTable types → number ≤ MOST_COMMANDS → IsRestCause types.traces closing number rest cause → BeginsWithCommand types closing rest → ⊥
fault_ends types closing number rest cause table few wrong begins = elim wrong [
  | inl ended ↦
      let same = (split_in_one_way 10 rest ended.0 ended.1 (command_text begins.command) begins.rest (record { whole = ended.2; first = ended.3 })
      (record { whole = begins.is; first = command_is_line types closing begins.command table begins.may })).0 in
      no_line_cause types closing number begins.command cause table begins.may few (subst (λ line. IsLineCause types.traces closing number line cause) same ended.4)
  | inr still ↦ has_none 10 rest (command_text begins.command) begins.rest still.1 begins.is
]

-- nor does nothing
append_some : (front rest : List ℕ) (byte : ℕ) → [] ≡ front ++ byte ∷ rest → ⊥
append_some [] rest byte same = absurd cc
append_some (b ∷ front) rest byte same = absurd cc

none_ends : (types : TypeTable) (closing : Bool) → BeginsWithCommand types closing [] → ⊥
none_ends types closing begins = append_some (command_text begins.command) begins.rest 10 begins.is

-- and nothing is wrong with it
none_is_right : (traces : ℕ) (closing : Bool) (number : ℕ) (cause : ScriptCause) → IsRestCause traces closing number [] cause → ⊥
none_is_right traces closing number cause wrong = elim wrong [ inl ended ↦ append_some ended.0 ended.1 10 ended.2 | inr still ↦ still.0 refl ]

-- the commands of a script are one list
pub script_once : (types : TypeTable) (closing : Bool) (bytes : List ℕ) (commands others : List Command) → IsTypeTable types → IsScript types closing bytes commands → IsScript types closing bytes others → commands ≡ others
script_once types closing bytes commands others table one two =
    (commands_once types closing table commands others [] [] one.may_stand two.may_stand
    (append-nil (text_of_commands commands) ∙ (sym one.whole ∙ (two.whole ∙ sym (append-nil (text_of_commands others)))))
    (λ fewer. none_ends types closing) (λ fewer. none_ends types closing)).0

-- a fault stands behind fewer commands than so many at a line that a command may have
few_before : (commands : List Command) (number line : ℕ) → line ≡ length commands + 1 → length commands < number → number ≤ MOST_COMMANDS → line ≤ MOST_COMMANDS
few_before commands number line is fewer few = omega (arith, is, fewer, few)

-- a script has no fault
no_fault : (types : TypeTable) (closing : Bool) (bytes : List ℕ) (commands others : List Command) (error : ScriptError) → IsTypeTable types → IsScript types closing bytes commands → HasFaultAfter types closing bytes others error → ⊥
no_fault types closing bytes commands others error table script fault =
    let same = commands_once types closing table commands others [] fault.rest script.may_stand fault.may_stand
    (append-nil (text_of_commands commands) ∙ (sym script.whole ∙ fault.whole))
    (λ fewer. none_ends types closing)
    (λ fewer. fault_ends types closing error.line fault.rest error.cause table (few_before others (length commands) error.line fault.line_is fewer script.few) fault.cause) in
    none_is_right types.traces closing error.line error.cause (subst (λ rest. IsRestCause types.traces closing error.line rest error.cause) (sym same.1) fault.cause)

pub not_refused : (types : TypeTable) (closing : Bool) (bytes : List ℕ) (commands : List Command) (error : ScriptError) → IsTypeTable types → IsScript types closing bytes commands → IsRefused types closing bytes error → ⊥
not_refused types closing bytes commands error table script refused = elim refused [
  | inl long ↦ let over = long.0 in let within = script.within in omega (arith, over, within)
  | inr fault ↦ no_fault types closing bytes commands fault.1.0 error table script fault.1.1
]

-- errors of one line and one cause are one
same_error : (error other : ScriptError) → error.line ≡ other.line → error.cause ≡ other.cause → error ≡ other
same_error error other lines causes = ap (λ n. record { line = n; cause = error.cause }) lines ∙ ap (λ c. record { line = other.line; cause = c }) causes

-- the first fault is one
fault_once : (types : TypeTable) (closing : Bool) (bytes : List ℕ) (commands others : List Command) (error other : ScriptError) → IsTypeTable types → HasFaultAfter types closing bytes commands error → HasFaultAfter types closing bytes others other → error ≡ other
fault_once types closing bytes commands others error other table one two =
    let same = commands_once types closing table commands others one.rest two.rest one.may_stand two.may_stand (sym one.whole ∙ two.whole)
    (λ fewer. fault_ends types closing error.line one.rest error.cause table (few_before commands (length others) error.line one.line_is fewer two.few) one.cause)
    (λ fewer. fault_ends types closing other.line two.rest other.cause table (few_before others (length commands) other.line two.line_is fewer one.few) two.cause) in
    let lines : error.line ≡ other.line = one.line_is ∙ (ap (λ cs. length cs + 1) same.0 ∙ sym two.line_is) in
    let also : IsRestCause types.traces closing error.line one.rest other.cause = subst (λ line. IsRestCause types.traces closing line one.rest other.cause) (sym lines)
    (subst (λ rest. IsRestCause types.traces closing other.line rest other.cause) (sym same.1) two.cause) in
    let causes : error.cause ≡ other.cause = rest_cause_once types.traces closing error.line one.rest error.cause other.cause one.cause also in
    same_error error other lines causes

pub refused_once : (types : TypeTable) (closing : Bool) (bytes : List ℕ) (error other : ScriptError) → IsTypeTable types → IsRefused types closing bytes error → IsRefused types closing bytes other → error ≡ other
refused_once types closing bytes error other table one two = elim one [
  | inl long ↦ elim two [
    | inl also ↦ long.1 ∙ sym also.1
    | inr fault ↦ let over = long.0 in let within = fault.0 in absurd (omega (arith, over, within))
  ]
  | inr fault ↦ elim two [
    | inl long ↦ let over = long.0 in let within = fault.0 in absurd (omega (arith, over, within))
    | inr also ↦ fault_once types closing bytes fault.1.0 also.1.0 error other table fault.1.1 also.1.1
  ]
]
