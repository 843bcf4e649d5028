-- Which bytes are a script, and what is wrong with those that aren't.
use Rattle.std.specs.Prelude.{◌≡◌, ◌≢◌, ◌<◌, ◌≤◌, ◌+◌, ◌⊎◌, ℕ, Bool, true, List, [], ◌∷◌, ◌++◌, length, All, Contains, codes}
use Rattle.std.specs.List.{AllByRecursion, flat_map}
use Rattle.causal_base.specs.Fields.{IsNoId, NamesNoTrace, NamesNoNumber}
use Rattle.causal_base.specs.Refusals.{Refusals, refuses, IsFirst, ArePassed}
use Rattle.causal_base.specs.Spelling.{IsNumber}
use Rattle.causal_base.specs.Types.{TypeTable}
use Rattle.client_session.specs.declared.command.Command.{Command}
use Rattle.client_session.specs.declared.limits.TheConstants.{MOST_COMMANDS, MOST_LINE, MOST_SCRIPT}
use Rattle.client_session.specs.declared.script_error.ScriptCause.{ScriptCause}
use Rattle.client_session.specs.declared.script_error.ScriptCause.TheVariants.{TooLong, LongLine, Unended, TooManyLines, NoCommand, Shape, NotInClosing, BadId, NoTrace, BadNumber}
use Rattle.client_session.specs.declared.script_error.ScriptError.{ScriptError}
use Rattle.client_session.specs.Commands.{command_text, MayStand}

-- the lines of commands, each with its end
abbrev pub text_of_commands : List Command → List ℕ
text_of_commands commands = flat_map (λ command. command_text command ++ 10 ∷ []) commands

-- The bytes are these commands, one a line.
pub record IsScript (types : TypeTable) (closing : Bool) (bytes : List ℕ) (commands : List Command)
    : Type 0 where
  pub whole : bytes ≡ text_of_commands commands
  pub within : length bytes ≤ MOST_SCRIPT
  pub few : length commands ≤ MOST_COMMANDS
  pub may_stand : AllByRecursion (MayStand types closing) commands

-- the bytes have no space
abbrev pub IsOneWord : List ℕ → Type 0
IsOneWord bytes = All (λ byte. byte ≢ 32) bytes

-- The line is a word, and others with a space before each.
pub record AreWords (line first : List ℕ) (others : List (List ℕ)) : Type 0 where
  pub whole : line ≡ first ++ flat_map (λ word. 32 ∷ word) others
  pub one_word : IsOneWord first
  pub one_word_each : AllByRecursion IsOneWord others

-- what stands behind the words of a command's own: an id, or a trace
pub data Argument : Type 0 where
  AnId : Argument
  ATrace : Argument

-- How a command is written: its first word, its second word if it has one of its own, and what
-- stands behind them.
pub record Form : Type 0 where
  pub first : List ℕ
  pub second : List (List ℕ)
  pub arguments : List Argument

-- a form with one word of its own, or with two
abbrev pub one_word : List ℕ → List Argument → Form
one_word first arguments = record { first = first; second = []; arguments = arguments }

abbrev pub two_words : List ℕ → List ℕ → List Argument → Form
two_words first second arguments =
    record { first = first; second = second ∷ []; arguments = arguments }

-- how each command is written
abbrev pub forms : List Form
forms = one_word (codes "before") (AnId ∷ AnId ∷ [])
    ∷ one_word (codes "relation") (AnId ∷ AnId ∷ [])
    ∷ one_word (codes "event") (AnId ∷ [])
    ∷ one_word (codes "stamp") (AnId ∷ [])
    ∷ one_word (codes "gp") (AnId ∷ ATrace ∷ [])
    ∷ one_word (codes "ls") (AnId ∷ ATrace ∷ [])
    ∷ two_words (codes "cut") (codes "none") []
    ∷ two_words (codes "cut") (codes "all") []
    ∷ two_words (codes "cut") (codes "to") (AnId ∷ [])
    ∷ two_words (codes "cut") (codes "back") (AnId ∷ [])
    ∷ two_words (codes "cut") (codes "has") (AnId ∷ [])
    ∷ one_word (codes "count") []
    ∷ one_word (codes "await") (AnId ∷ [])
    ∷ []

-- A line with this first word and these others is written in a form: they are its own words, and a
-- word for each of its arguments, which isn't empty.
pub record IsWritten (form : Form) (first : List ℕ) (others arguments : List (List ℕ))
    : Type 0 where
  pub first_is : first ≡ form.first
  pub others_are : others ≡ form.second ++ arguments
  pub as_many : length arguments ≡ length form.arguments
  pub some_each : AllByRecursion (λ word. word ≢ []) arguments

-- what may be wrong with an id
abbrev pub id_faults : ℕ → List ℕ → Refusals ScriptCause
id_faults traces word = refuses (IsNoId word) BadId
    ∷ refuses (NamesNoTrace word traces) NoTrace
    ∷ refuses (NamesNoNumber word traces) BadNumber
    ∷ []

-- what may be wrong with a trace
abbrev pub trace_faults : ℕ → List ℕ → Refusals ScriptCause
trace_faults traces word = refuses ((n : ℕ) → IsNumber word n → ⊥) BadId
    ∷ refuses ((n : ℕ) × IsNumber word n × (traces ≤ n)) NoTrace
    ∷ []

-- what may be wrong with an argument
abbrev pub argument_faults : ℕ → Argument → List ℕ → Refusals ScriptCause
argument_faults traces AnId word = id_faults traces word
argument_faults traces ATrace word = trace_faults traces word

-- what may be wrong with arguments, from the left
abbrev pub arguments_faults : ℕ → List Argument → List (List ℕ) → Refusals ScriptCause
arguments_faults traces [] words = []
arguments_faults traces (argument ∷ arguments) [] = []
arguments_faults traces (argument ∷ arguments) (word ∷ words) =
    argument_faults traces argument word ++ arguments_faults traces arguments words

-- what may be wrong with a command that is written in this form, for the words of its arguments
abbrev pub form_faults : ℕ → Bool → Form → List (List ℕ) → Refusals ScriptCause
form_faults traces closing form words =
    refuses ((closing ≡ true) × (form.first ≡ codes "stamp")) NotInClosing
    ∷ arguments_faults traces form.arguments words

-- what is wrong with the words of a line: no command has its first word, or it is written in none
-- of the forms that have it, or something is wrong with it in the form in which it is written
abbrev pub IsWordsCause : ℕ → Bool → List ℕ → List (List ℕ) → ScriptCause → Type 0
IsWordsCause traces closing first others cause =
    (((form : Form) → Contains forms form → first ≢ form.first) × (cause ≡ NoCommand))
    ⊎ (((form : Form) × Contains forms form × (first ≡ form.first))
    × ((form : Form) (arguments : List (List ℕ)) → Contains forms form
    → IsWritten form first others arguments → ⊥) × (cause ≡ Shape))
    ⊎ ((form : Form) × (arguments : List (List ℕ)) × Contains forms form
    × IsWritten form first others arguments
    × IsFirst (form_faults traces closing form arguments) cause)

-- what may be wrong with a line with this number, whatever its words are
abbrev pub line_faults : ℕ → List ℕ → Refusals ScriptCause
line_faults number line = refuses (MOST_LINE < length line) LongLine
    ∷ refuses (MOST_COMMANDS < number) TooManyLines
    ∷ []

-- what is wrong with an ended line with this number
abbrev pub IsLineCause : ℕ → Bool → ℕ → List ℕ → ScriptCause → Type 0
IsLineCause traces closing number line cause = IsFirst (line_faults number line) cause
    ⊎ (ArePassed (line_faults number line) × ((first : List ℕ) × (others : List (List ℕ))
    × AreWords line first others × IsWordsCause traces closing first others cause))

-- what is wrong with the line with this number, with which the rest of a file begins: an ended one,
-- or one within which the file ends
abbrev pub IsRestCause : ℕ → Bool → ℕ → List ℕ → ScriptCause → Type 0
IsRestCause traces closing number rest cause =
    ((line : List ℕ) × (behind : List ℕ) × (rest ≡ line ++ 10 ∷ behind)
    × All (λ byte. byte ≢ 10) line × IsLineCause traces closing number line cause)
    ⊎ ((rest ≢ []) × All (λ byte. byte ≢ 10) rest
    × (((MOST_LINE < length rest) × (cause ≡ LongLine))
    ⊎ ((length rest ≤ MOST_LINE) × (cause ≡ Unended))))

-- The bytes are the lines of these commands, and then a line with this fault.
pub record HasFaultAfter (types : TypeTable) (closing : Bool) (bytes : List ℕ)
    (commands : List Command) (error : ScriptError) : Type 0 where
  pub may_stand : AllByRecursion (MayStand types closing) commands
  pub few : length commands ≤ MOST_COMMANDS
  pub rest : List ℕ
  pub whole : bytes ≡ text_of_commands commands ++ rest
  pub line_is : error.line ≡ length commands + 1
  pub cause : IsRestCause types.traces closing error.line rest error.cause

-- The file is too long, or else it has this fault after its first commands.
abbrev pub IsRefused : TypeTable → Bool → List ℕ → ScriptError → Type 0
IsRefused types closing bytes error =
    ((MOST_SCRIPT < length bytes) × (error ≡ record { line = 0; cause = TooLong }))
    ⊎ ((length bytes ≤ MOST_SCRIPT) × ((commands : List Command)
    × HasFaultAfter types closing bytes commands error))
