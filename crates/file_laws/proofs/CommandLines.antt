-- The line of a command has the command's words, and nothing is wrong with it.
use Rattle.std.proofs.Common.{◌≡◌, ◌≢◌, ◌<◌, ◌≤◌, ◌*◌, ℕ, inl, inr, Bool, true, false, cond, List, [], ◌∷◌, ◌++◌, map, length, length-append, All, Option, None, Some, refl, sym, ap, subst, ◌∙◌, append-nil, append_assoc, arith, lit≤}
use Rattle.std.specs.Prelude.{bytes_eq, codes, decimal}
use Rattle.std.specs.List.{AllByRecursion}
use Rattle.std.proofs.lemmas.List.Elements.{All-append, All-cons, All-nil, All-weaker}
use Rattle.causal_base.specs.declared.event_id.EventId.{EventId}
use Rattle.causal_base.specs.declared.fields.IdFault.TheVariants as id_fault
use Rattle.causal_base.specs.Event.{IsInRange}
use Rattle.causal_base.specs.Fields.{IsIdInRange}
use Rattle.causal_base.specs.Refusals.{ArePassed, IsFirst}
use Rattle.causal_base.specs.Spelling.{IsId, IsNumber, id_text}
use Rattle.causal_base.specs.Types.{TypeTable}
use Rattle.causal_base.specs.TypeTables.{IsTypeTable}
use Rattle.causal_base.proofs.CallerLemmas.{fault_excludes, id_once, number_once, passed_both, passed_first, same_id}
use Rattle.client_session.specs.declared.command.Command.{Command}
use Rattle.client_session.specs.declared.command.Command.TheVariants.{Before, Relation, Event, Stamp, GreatestBefore, LeastAfter, CutNone, CutAll, CutTo, CutBack, CutHas, Count, Await}
use Rattle.client_session.specs.declared.limits.TheConstants.{MOST_COMMANDS, MOST_LINE}
use Rattle.client_session.specs.declared.script_error.ScriptCause.{ScriptCause}
use Rattle.client_session.specs.Commands.{AsksForStamp, MayStand, command_text}
use Rattle.client_session.specs.Scripts.{AreWords, Form, IsLineCause, IsOneWord, IsWordsCause, IsWritten, argument_faults, arguments_faults, form_faults, id_faults, line_faults, trace_faults}
use Rattle.file_laws.proofs.CommandWords.{IsPlain, MayBeNamed, Named, NamedId, NamedTrace, argument_of, command_plain, command_written, first_of, form_of, form_stands, may_be_named, named_by, others_few, others_of, word_of, words_of}
use Rattle.file_laws.proofs.FormsOnce.{form_once}
use Rattle.file_laws.proofs.WordsOnce.{each_behind, words_once}

-- plain bytes have no space and no line feed
plain_lacks : (low : ℕ) (word : List ℕ) → low ≤ 32 → IsPlain word → All (λ byte. byte ≢ low) word
plain_lacks low word small plain = All-weaker (λ b. 32 < b) (λ b. b ≢ low) (λ b above same. omega arith) word plain.visible

one_word_each : (words : List (List ℕ)) → AllByRecursion IsPlain words → AllByRecursion IsOneWord words
one_word_each [] plain = tt
one_word_each (word ∷ words) plain = (plain_lacks 32 word (lit≤ tt) plain.0, one_word_each words plain.1)

-- a word, and one or two behind it
one_behind : (word a : List ℕ) → word ++ 32 ∷ a ≡ word ++ each_behind (a ∷ [])
one_behind word a = ap (λ rest. word ++ 32 ∷ rest) (sym (append-nil a))

two_behind : (word a b : List ℕ) → ((word ++ 32 ∷ a) ++ 32 ∷ []) ++ b ≡ word ++ each_behind (a ∷ b ∷ [])
two_behind word a b = append_assoc (word ++ 32 ∷ a) (32 ∷ []) b ∙ (append_assoc word (32 ∷ a) (32 ∷ b) ∙ ap (λ rest. word ++ 32 ∷ (a ++ 32 ∷ rest)) (sym (append-nil b)))

-- a command's line is its first word, and the others behind spaces
parts_of : (command : Command) → command_text command ≡ first_of command ++ each_behind (others_of command)
parts_of (Before a b) = two_behind (codes "before") (id_text a) (id_text b)
parts_of (Relation a b) = two_behind (codes "relation") (id_text a) (id_text b)
parts_of (Event a) = one_behind (codes "event") (id_text a)
parts_of (Stamp a) = one_behind (codes "stamp") (id_text a)
parts_of (GreatestBefore a trace) = two_behind (codes "gp") (id_text a) (decimal trace)
parts_of (LeastAfter a trace) = two_behind (codes "ls") (id_text a) (decimal trace)
parts_of CutNone = refl
parts_of CutAll = refl
parts_of (CutTo a) = one_behind (codes "cut to") (id_text a)
parts_of (CutBack a) = one_behind (codes "cut back") (id_text a)
parts_of (CutHas a) = one_behind (codes "cut has") (id_text a)
parts_of Count = refl
parts_of (Await a) = one_behind (codes "await") (id_text a)

pub command_words : (types : TypeTable) (closing : Bool) (command : Command) → IsTypeTable types → MayStand types closing command → AreWords (command_text command) (first_of command) (others_of command)
command_words types closing command table may =
    let plain = command_plain types closing command table may in
    record {
      whole = parts_of command;
      one_word = plain_lacks 32 (first_of command) (lit≤ tt) plain.0;
      one_word_each = one_word_each (others_of command) plain.1;
    }

-- plain words have no line feed
behind_lack : (words : List (List ℕ)) → AllByRecursion IsPlain words → All (λ byte. byte ≢ 10) (each_behind words)
behind_lack [] plain = All-nil (λ byte. byte ≢ 10)
behind_lack (word ∷ words) plain =
    All-cons (λ byte. byte ≢ 10) 32 (word ++ each_behind words) (λ same. absurd (omega (arith, same)))
    (All-append (λ byte. byte ≢ 10) word (each_behind words) (plain_lacks 10 word (lit≤ tt) plain.0) (behind_lack words plain.1))

-- so a command's line has none
pub command_is_line : (types : TypeTable) (closing : Bool) (command : Command) → IsTypeTable types → MayStand types closing command → All (λ byte. byte ≢ 10) (command_text command)
command_is_line types closing command table may =
    let plain = command_plain types closing command table may in
    subst (All (λ byte. byte ≢ 10)) (sym (parts_of command))
    (All-append (λ byte. byte ≢ 10) (first_of command) (each_behind (others_of command)) (plain_lacks 10 (first_of command) (lit≤ tt) plain.0) (behind_lack (others_of command) plain.1))

-- and is short
behind_short : (words : List (List ℕ)) → AllByRecursion IsPlain words → length (each_behind words) ≤ 12 * length words
behind_short [] plain = omega arith
behind_short (word ∷ words) plain =
    let first = plain.0.short in
    let others = behind_short words plain.1 in
    let size = length-append word (each_behind words) in
    omega (arith, first, others, size)

command_is_short : (types : TypeTable) (closing : Bool) (command : Command) → IsTypeTable types → MayStand types closing command → length (command_text command) ≤ MOST_LINE
command_is_short types closing command table may =
    let plain = command_plain types closing command table may in
    let first = plain.0.short in
    let few = others_few command in
    let others = behind_short (others_of command) plain.1 in
    let size = length-append (first_of command) (each_behind (others_of command)) in
    let whole = ap length (parts_of command) in
    omega (arith, first, few, others, size, whole)

-- an id in range is one, and a trace is a number
in_range : (types : TypeTable) (id : EventId) → types.traces ≤ 256 → IsInRange types id → IsIdInRange (id_text id) types.traces id
in_range types id few range = record {
  is_id = record { small_trace = omega (arith, few, range.trace); small_number = omega (arith, range.most); spelled = refl };
  trace = range.trace;
  least = range.least;
  most = range.most;
}

is_trace : (types : TypeTable) (trace : ℕ) → types.traces ≤ 256 → trace < types.traces → IsNumber (decimal trace) trace
is_trace types trace few below = record { small = omega (arith, few, below); spelled = refl }

-- and they have no fault
id_passed : (traces : ℕ) (word : List ℕ) (id : EventId) → IsIdInRange word traces id → ArePassed (id_faults traces word)
id_passed traces word id range = (
  (λ error bad. fault_excludes word traces id id_fault.BadId range bad.0),
  ((λ error bad. fault_excludes word traces id id_fault.NoTrace range bad.0), ((λ error bad. fault_excludes word traces id id_fault.BadNumber range bad.0), tt)),
)

trace_passed : (traces : ℕ) (word : List ℕ) (trace : ℕ) → IsNumber word trace → trace < traces → ArePassed (trace_faults traces word)
trace_passed traces word trace is below = (
  (λ error bad. bad.0 trace is),
  ((λ error bad. let same = number_once word trace bad.0.0 is bad.0.1 in let beyond = bad.0.2 in omega (arith, below, same, beyond)), tt),
)

named_passed : (types : TypeTable) (named : Named) → types.traces ≤ 256 → MayBeNamed types named → ArePassed (argument_faults types.traces (argument_of named) (word_of named))
named_passed types (NamedId id) few range = id_passed types.traces (id_text id) id (in_range types id few range)
named_passed types (NamedTrace trace) few below = trace_passed types.traces (decimal trace) trace (is_trace types trace few below) below

names_passed : (types : TypeTable) (names : List Named) → types.traces ≤ 256 → AllByRecursion (MayBeNamed types) names
    → ArePassed (arguments_faults types.traces (map argument_of names) (map word_of names))
names_passed types [] few range = tt
names_passed types (named ∷ names) few range =
    passed_both (argument_faults types.traces (argument_of named) (word_of named)) (arguments_faults types.traces (map argument_of names) (map word_of names))
    (named_passed types named few range.0) (names_passed types names few range.1)

-- the word `stamp` asks for a stamp
asks : (command : Command) → first_of command ≡ codes "stamp" → AsksForStamp command
asks (Stamp a) same = tt
asks command same = let differs : false ≡ true = ap (λ word. bytes_eq word (codes "stamp")) same in absurd cc

-- nothing is wrong with the words of a command that may stand
form_passed : (types : TypeTable) (closing : Bool) (command : Command) → IsTypeTable types → MayStand types closing command → ArePassed (form_faults types.traces closing (form_of command) (words_of command))
form_passed types closing command table may = (
  (λ error stamp. may.closing_too stamp.0.0 (asks command stamp.0.1)),
  names_passed types (named_by command) table.most_traces (may_be_named types closing command may),
)

no_words_cause : (types : TypeTable) (closing : Bool) (command : Command) (cause : ScriptCause) → IsTypeTable types → MayStand types closing command
    → IsWordsCause types.traces closing (first_of command) (others_of command) cause → ⊥
no_words_cause types closing command cause table may wrong =
    let written = command_written types closing command table may in
    elim wrong [
      | inl none ↦ none.0 (form_of command) (form_stands command) refl
      | inr (inl shape) ↦ shape.1 (form_of command) (words_of command) (form_stands command) written
      | inr (inr form) ↦
          let same = form_once (first_of command) (others_of command) form.0 (form_of command) form.1 (words_of command) form.2 (form_stands command) form.3 written in
          passed_first (form_faults types.traces closing (form_of command) (words_of command)) cause (form_passed types closing command table may)
          (subst (λ it. IsFirst (form_faults types.traces closing it (words_of command)) cause) same.0 (subst (λ words. IsFirst (form_faults types.traces closing form.0 words) cause) same.1 form.4))
    ]

-- nothing is wrong with the line of a command that may stand, at one of the first 10,000 places
pub no_line_cause : (types : TypeTable) (closing : Bool) (number : ℕ) (command : Command) (cause : ScriptCause) → IsTypeTable types → MayStand types closing command → number ≤ MOST_COMMANDS
    → IsLineCause types.traces closing number (command_text command) cause → ⊥
no_line_cause types closing number command cause table may few wrong = elim wrong [
  | inl first ↦
      let short = command_is_short types closing command table may in
      passed_first (line_faults number (command_text command)) cause ((λ error long. let over = long.0 in omega (arith, short, over)), ((λ error many. let over = many.0 in omega (arith, few, over)), tt)) first
  | inr later ↦
      let bad = later.1 in
      let same = words_once (command_text command) bad.0 (first_of command) bad.1 (others_of command) bad.2 (command_words types closing command table may) in
      no_words_cause types closing command cause table may
      (subst (λ first. IsWordsCause types.traces closing first (others_of command) cause) same.0 (subst (λ words. IsWordsCause types.traces closing bad.0 words cause) same.1 bad.3))
]

-- an id in range has its text alone, and a trace its decimal
id_text_once : (types : TypeTable) (a b : EventId) → types.traces ≤ 256 → IsInRange types a → IsInRange types b → id_text a ≡ id_text b → a ≡ b
id_text_once types a b few range_a range_b same =
    let is_a : IsId (id_text a) a.trace a.number = (in_range types a few range_a).is_id in
    let is_b : IsId (id_text a) b.trace b.number = record { small_trace = omega (arith, few, range_b.trace); small_number = omega (arith, range_b.most); spelled = same } in
    let once = id_once (id_text a) a.trace a.number b.trace b.number is_a is_b in
    same_id a b once.0 once.1

trace_once : (types : TypeTable) (a b : ℕ) → types.traces ≤ 256 → a < types.traces → b < types.traces → decimal a ≡ decimal b → a ≡ b
trace_once types a b few below_a below_b same =
    number_once (decimal a) a b (is_trace types a few below_a) (record { small = omega (arith, few, below_b); spelled = same })

-- so each of one sort has its word alone
named_once : (types : TypeTable) (named other : Named) → types.traces ≤ 256 → MayBeNamed types named → MayBeNamed types other → argument_of named ≡ argument_of other → word_of named ≡ word_of other → named ≡ other
named_once types (NamedId a) (NamedId b) few range also sort same = ap NamedId (id_text_once types a b few range also same)
named_once types (NamedId a) (NamedTrace b) few range also sort same = absurd cc
named_once types (NamedTrace a) (NamedId b) few range also sort same = absurd cc
named_once types (NamedTrace a) (NamedTrace b) few range also sort same = ap NamedTrace (trace_once types a b few range also same)

names_once : (types : TypeTable) (names others : List Named) → types.traces ≤ 256 → AllByRecursion (MayBeNamed types) names → AllByRecursion (MayBeNamed types) others
    → map argument_of names ≡ map argument_of others → map word_of names ≡ map word_of others → names ≡ others
names_once types [] [] few range ranges sorts same = refl
names_once types [] (b ∷ others) few range ranges sorts same = absurd cc
names_once types (a ∷ names) [] few range ranges sorts same = absurd cc
names_once types (a ∷ names) (b ∷ others) few range ranges sorts same =
    let sort : argument_of a ≡ argument_of b = cc in
    let more : map argument_of names ≡ map argument_of others = cc in
    let heads : word_of a ≡ word_of b = cc in
    let tails : map word_of names ≡ map word_of others = cc in
    let first : a ≡ b = named_once types a b few range.0 ranges.0 sort heads in
    let later : names ≡ others = names_once types names others few range.1 ranges.1 more tails in
    cc

-- the last of a form's own words
abbrev last_own : List ℕ → List (List ℕ) → List ℕ
last_own first [] = first
last_own first (second ∷ words) = second

-- the command with this last word of its own, which names these
abbrev of_parts : List ℕ → List Named → Option Command
of_parts word [] = cond (bytes_eq word (codes "none")) (Some CutNone) (cond (bytes_eq word (codes "all")) (Some CutAll) (Some Count))
of_parts word (NamedId a ∷ []) =
    cond (bytes_eq word (codes "event")) (Some (Event a)) (cond (bytes_eq word (codes "stamp")) (Some (Stamp a)) (cond (bytes_eq word (codes "to")) (Some (CutTo a))
    (cond (bytes_eq word (codes "back")) (Some (CutBack a)) (cond (bytes_eq word (codes "has")) (Some (CutHas a)) (Some (Await a))))))
of_parts word (NamedId a ∷ NamedId b ∷ []) = cond (bytes_eq word (codes "before")) (Some (Before a b)) (Some (Relation a b))
of_parts word (NamedId a ∷ NamedTrace trace ∷ []) = cond (bytes_eq word (codes "gp")) (Some (GreatestBefore a trace)) (Some (LeastAfter a trace))
of_parts word names = None

abbrev of_form : Form → List Named → Option Command
of_form form names = of_parts (last_own form.first form.second) names

is_of_form : (command : Command) → of_form (form_of command) (named_by command) ≡ Some command
is_of_form (Before a b) = refl
is_of_form (Relation a b) = refl
is_of_form (Event a) = refl
is_of_form (Stamp a) = refl
is_of_form (GreatestBefore a trace) = refl
is_of_form (LeastAfter a trace) = refl
is_of_form CutNone = refl
is_of_form CutAll = refl
is_of_form (CutTo a) = refl
is_of_form (CutBack a) = refl
is_of_form (CutHas a) = refl
is_of_form Count = refl
is_of_form (Await a) = refl

-- commands that may stand and have one line are one
pub command_once : (types : TypeTable) (closing : Bool) (command other : Command) → IsTypeTable types → MayStand types closing command → MayStand types closing other → command_text command ≡ command_text other → command ≡ other
command_once types closing command other table may also same =
    let one = command_words types closing command table may in
    let two = subst (λ line. AreWords line (first_of other) (others_of other)) (sym same) (command_words types closing other table also) in
    let words = words_once (command_text command) (first_of command) (first_of other) (others_of command) (others_of other) one two in
    let written = command_written types closing other table also in
    let again = subst (λ first. IsWritten (form_of other) first (others_of command) (words_of other)) (sym words.0) (subst (λ others. IsWritten (form_of other) (first_of other) others (words_of other)) (sym words.1) written) in
    let parts = form_once (first_of command) (others_of command) (form_of command) (form_of other) (words_of command) (words_of other) (form_stands command) (form_stands other)
    (command_written types closing command table may) again in
    let names = names_once types (named_by command) (named_by other) table.most_traces (may_be_named types closing command may) (may_be_named types closing other also) (ap (λ form. form.arguments) parts.0) parts.1 in
    let both : Some command ≡ Some other = sym (is_of_form command) ∙ (ap (λ form. of_form form (named_by command)) parts.0 ∙ (ap (of_form (form_of other)) names ∙ is_of_form other)) in
    cc
