-- The commands of a script, read line by line.
use Rattle.std.proofs.Common.{◌≡◌, ℕ, ◌+◌, ◌≤◌, inr, Bool, List, [], ◌∷◌, ◌++◌, length, refl, sym, ap, ◌∙◌, append-nil, append_assoc}
use Rattle.std.specs.List.{AllByRecursion}
use Rattle.std.proofs.lemmas.Grind.{flat_map-append}
use Rattle.causal_base.specs.Types.{TypeTable}
use Rattle.client_session.specs.declared.command.Command.{Command}
use Rattle.client_session.specs.declared.limits.TheConstants.{MOST_COMMANDS, MOST_SCRIPT}
use Rattle.client_session.specs.declared.script_error.ScriptCause.{ScriptCause}
use Rattle.client_session.specs.Commands.{MayStand, command_text}
use Rattle.client_session.specs.Scripts.{IsRefused, IsRestCause, text_of_commands}

-- one more command
pub text_more : (commands : List Command) (command : Command) (rest : List ℕ) → text_of_commands commands ++ (command_text command ++ 10 ∷ rest) ≡ text_of_commands (commands ++ command ∷ []) ++ rest
text_more commands command rest =
    ap (λ bytes. text_of_commands commands ++ bytes) (sym (append_assoc (command_text command) (10 ∷ []) rest))
    ∙ (sym (append_assoc (text_of_commands commands) (command_text command ++ 10 ∷ []) rest)
    ∙ ap (λ bytes. bytes ++ rest) (ap (λ bytes. text_of_commands commands ++ bytes) (sym (append-nil (command_text command ++ 10 ∷ []))) ∙ sym (flat_map-append (λ c. command_text c ++ 10 ∷ []) commands (command ∷ []))))

pub stand_more : (types : TypeTable) (closing : Bool) (commands : List Command) (command : Command) → AllByRecursion (MayStand types closing) commands → MayStand types closing command → AllByRecursion (MayStand types closing) (commands ++ command ∷ [])
stand_more types closing [] command all also = (also, tt)
stand_more types closing (first ∷ commands) command all also = (all.0, stand_more types closing commands command all.1 also)

-- the line behind the commands is refused
pub refused_at : (types : TypeTable) (closing : Bool) (bytes : List ℕ) (commands : List Command) (rest : List ℕ) (cause : ScriptCause) → length bytes ≤ MOST_SCRIPT
    → bytes ≡ text_of_commands commands ++ rest → length commands ≤ MOST_COMMANDS → AllByRecursion (MayStand types closing) commands
    → IsRestCause types.traces closing (length commands + 1) rest cause → IsRefused types closing bytes (record { line = length commands + 1; cause = cause })
refused_at types closing bytes commands rest cause within whole few may_stand wrong =
    inr (within, (commands, record { may_stand = may_stand; few = few; rest = rest; whole = whole; line_is = refl; cause = wrong }))
