-- The words of a command: those of its own, and one for each thing that it names.
use Rattle.std.proofs.Common.{◌≡◌, ◌≢◌, ◌<◌, ◌≤◌, ◌+◌, ◌^◌, ℕ, Bool, ◌&&◌, true, List, [], ◌∷◌, ◌++◌, map, length, length-append, All, refl, sym, ap, ◌∙◌, arith, lit<}
use Rattle.std.specs.Prelude.{Contains, codes, decimal, ltb, nat_le}
use Rattle.std.specs.List.{AllByRecursion, list_all}
use Rattle.std.proofs.lemmas.Bool.{and_parts, leb-true, ltb-true}
use Rattle.std.proofs.lemmas.Fmt.{decimal_nonempty, digits_decimal, length-decimal-le}
use Rattle.std.proofs.lemmas.List.{length-map}
use Rattle.std.proofs.lemmas.List.Elements.{All-append, All-cons, All-contains, All-from_get_or, All-weaker, recursion_from_All}
use Rattle.std.proofs.lemmas.List.Sums.{AllPass-from_list_all}
use Rattle.std.proofs.lemmas.Str.Parse.{digit_at}
use Rattle.causal_base.specs.declared.event_id.EventId.{EventId}
use Rattle.causal_base.specs.Event.{IsInRange}
use Rattle.causal_base.specs.Spelling.{id_text}
use Rattle.causal_base.specs.Types.{TypeTable}
use Rattle.causal_base.specs.TypeTables.{IsTypeTable}
use Rattle.causal_base.proofs.CallerLemmas.{below_two_to_64, own_digits}
use Rattle.client_session.specs.declared.command.Command.{Command}
use Rattle.client_session.specs.declared.command.Command.TheVariants.{Before, Relation, Event, Stamp, GreatestBefore, LeastAfter, CutNone, CutAll, CutTo, CutBack, CutHas, Count, Await}
use Rattle.client_session.specs.Commands.{MayStand, ids_of, traces_of}
use Rattle.client_session.specs.Scripts.{Argument, AnId, ATrace, Form, IsWritten, forms}

-- what a command names: an id, or a trace
pub data Named : Type 0 where
  NamedId : (id : EventId) → Named
  NamedTrace : (trace : ℕ) → Named

-- which argument it is, how it is spelled, and what it must be
abbrev pub argument_of : Named → Argument
argument_of (NamedId id) = AnId
argument_of (NamedTrace trace) = ATrace

abbrev pub word_of : Named → List ℕ
word_of (NamedId id) = id_text id
word_of (NamedTrace trace) = decimal trace

abbrev pub MayBeNamed : TypeTable → Named → Type 0
MayBeNamed types (NamedId id) = IsInRange types id
MayBeNamed types (NamedTrace trace) = trace < types.traces

-- all that a command names, and its words
abbrev pub named_by : Command → List Named
named_by command = map NamedId (ids_of command) ++ map NamedTrace (traces_of command)

abbrev pub words_of : Command → List (List ℕ)
words_of command = map word_of (named_by command)

-- the first word of a command's line, and its second if that is its own too
abbrev pub first_of : Command → List ℕ
first_of (Before a b) = codes "before"
first_of (Relation a b) = codes "relation"
first_of (Event a) = codes "event"
first_of (Stamp a) = codes "stamp"
first_of (GreatestBefore a trace) = codes "gp"
first_of (LeastAfter a trace) = codes "ls"
first_of CutNone = codes "cut"
first_of CutAll = codes "cut"
first_of (CutTo a) = codes "cut"
first_of (CutBack a) = codes "cut"
first_of (CutHas a) = codes "cut"
first_of Count = codes "count"
first_of (Await a) = codes "await"

abbrev pub second_of : Command → List (List ℕ)
second_of CutNone = codes "none" ∷ []
second_of CutAll = codes "all" ∷ []
second_of (CutTo a) = codes "to" ∷ []
second_of (CutBack a) = codes "back" ∷ []
second_of (CutHas a) = codes "has" ∷ []
second_of command = []

-- the words behind the first
abbrev pub others_of : Command → List (List ℕ)
others_of command = second_of command ++ words_of command

-- the form in which a command is written, which is one of the forms
abbrev pub form_of : Command → Form
form_of command = record { first = first_of command; second = second_of command; arguments = map argument_of (named_by command) }

pub form_stands : (command : Command) → Contains forms (form_of command)
form_stands (Before a b) = (0, omega arith, refl)
form_stands (Relation a b) = (1, omega arith, refl)
form_stands (Event a) = (2, omega arith, refl)
form_stands (Stamp a) = (3, omega arith, refl)
form_stands (GreatestBefore a trace) = (4, omega arith, refl)
form_stands (LeastAfter a trace) = (5, omega arith, refl)
form_stands CutNone = (6, omega arith, refl)
form_stands CutAll = (7, omega arith, refl)
form_stands (CutTo a) = (8, omega arith, refl)
form_stands (CutBack a) = (9, omega arith, refl)
form_stands (CutHas a) = (10, omega arith, refl)
form_stands Count = (11, omega arith, refl)
form_stands (Await a) = (12, omega arith, refl)

-- what a command that may stand names may be named
named_each : (types : TypeTable) (ids : List EventId) (traces : List ℕ) → AllByRecursion (IsInRange types) ids → AllByRecursion (λ trace. trace < types.traces) traces
    → AllByRecursion (MayBeNamed types) (map NamedId ids ++ map NamedTrace traces)
named_each types [] [] ids_range traces_range = tt
named_each types [] (trace ∷ traces) ids_range traces_range = (traces_range.0, named_each types [] traces ids_range traces_range.1)
named_each types (id ∷ ids) traces ids_range traces_range = (ids_range.0, named_each types ids traces ids_range.1 traces_range)

pub may_be_named : (types : TypeTable) (closing : Bool) (command : Command) → MayStand types closing command → AllByRecursion (MayBeNamed types) (named_by command)
may_be_named types closing command may = named_each types (ids_of command) (traces_of command) may.in_range may.is_trace

-- A word of a command is some bytes above the space, and short.
pub record IsPlain (word : List ℕ) : Type 0 where
  pub some : 0 < length word
  pub visible : All (λ byte. 32 < byte) word
  pub short : length word ≤ 11

-- so it is where the test passes
abbrev is_plain : List ℕ → Bool
is_plain word = ltb 0 (length word) && (list_all (ltb 32) word && nat_le (length word) 11)

plain_from_test : (word : List ℕ) → is_plain word ≡ true → IsPlain word
plain_from_test word passes =
    let parts = and_parts (ltb 0 (length word)) (list_all (ltb 32) word && nat_le (length word) 11) passes in
    let more = and_parts (list_all (ltb 32) word) (nat_le (length word) 11) parts.1 in
    record {
      some = ltb-true 0 (length word) parts.0;
      visible = All-weaker (λ b. ltb 32 b ≡ true) (λ b. 32 < b) (ltb-true 32) word (AllPass-from_list_all (ltb 32) word more.0);
      short = leb-true (length word) 11 more.1;
    }

plain_each : (words : List (List ℕ)) → list_all is_plain words ≡ true → AllByRecursion IsPlain words
plain_each words passes = recursion_from_All IsPlain words (All-weaker (λ word. is_plain word ≡ true) IsPlain plain_from_test words (AllPass-from_list_all is_plain words passes))

-- the own words of a form are plain, and it has at most two words behind the first
abbrev is_plain_form : Form → Bool
is_plain_form form = list_all is_plain (form.first ∷ form.second) && nat_le (length form.second + length form.arguments) 2

plain_form : (form : Form) → Contains forms form → AllByRecursion IsPlain (form.first ∷ form.second) × (length form.second + length form.arguments ≤ 2)
plain_form form has =
    let passes = All-contains (λ f. is_plain_form f ≡ true) forms form (AllPass-from_list_all is_plain_form forms refl) has in
    let parts = and_parts (list_all is_plain (form.first ∷ form.second)) (nat_le (length form.second + length form.arguments) 2) passes in
    (plain_each (form.first ∷ form.second) parts.0, leb-true (length form.second + length form.arguments) 2 parts.1)

-- a number in decimal is visible
decimal_visible : (n : ℕ) → n < 10 ^ 18 → All (λ byte. 32 < byte) (decimal n)
decimal_visible n small = All-from_get_or (λ b. 32 < b) (decimal n) 0
    (λ i within. omega (arith, digit_at (decimal n) i (digits_decimal own_digits n (below_two_to_64 n small)) within))

-- the word of what a command may name is plain
named_plain : (types : TypeTable) (named : Named) → types.traces ≤ 256 → MayBeNamed types named → IsPlain (word_of named)
named_plain types (NamedId id) few range =
    let trace = length-decimal-le 3 id.trace (omega arith) (omega (arith, few, range.trace)) (omega (arith, few, range.trace)) in
    let number = length-decimal-le 7 id.number (omega arith) (omega (arith, range.most)) (omega (arith, range.most)) in
    let size = length-append (decimal id.trace) (46 ∷ decimal id.number) in
    record {
      some = omega (arith, size);
      visible = All-append (λ b. 32 < b) (decimal id.trace) (46 ∷ decimal id.number) (decimal_visible id.trace (omega (arith, few, range.trace)))
          (All-cons (λ b. 32 < b) 46 (decimal id.number) (lit< tt) (decimal_visible id.number (omega (arith, range.most))));
      short = omega (arith, trace, number, size);
    }
named_plain types (NamedTrace trace) few range =
    let size = length-decimal-le 3 trace (omega arith) (omega (arith, few, range)) (omega (arith, few, range)) in
    record {
      some = decimal_nonempty trace (omega (arith, few, range));
      visible = decimal_visible trace (omega (arith, few, range));
      short = omega (arith, size);
    }

words_plain : (types : TypeTable) (names : List Named) → types.traces ≤ 256 → AllByRecursion (MayBeNamed types) names → AllByRecursion IsPlain (map word_of names)
words_plain types [] few range = tt
words_plain types (named ∷ names) few range = (named_plain types named few range.0, words_plain types names few range.1)

plain_both : (words others : List (List ℕ)) → AllByRecursion IsPlain words → AllByRecursion IsPlain others → AllByRecursion IsPlain (words ++ others)
plain_both [] others plain also = also
plain_both (word ∷ words) others plain also = (plain.0, plain_both words others plain.1 also)

-- so the words of a command are plain, and there are at most two behind the first
pub command_plain : (types : TypeTable) (closing : Bool) (command : Command) → IsTypeTable types → MayStand types closing command → AllByRecursion IsPlain (first_of command ∷ others_of command)
command_plain types closing command table may =
    plain_both (first_of command ∷ second_of command) (words_of command) (plain_form (form_of command) (form_stands command)).0
    (words_plain types (named_by command) table.most_traces (may_be_named types closing command may))

as_many : (command : Command) → length (words_of command) ≡ length (map argument_of (named_by command))
as_many command = length-map (named_by command) word_of ∙ sym (length-map (named_by command) argument_of)

pub others_few : (command : Command) → length (others_of command) ≤ 2
others_few command =
    let few = (plain_form (form_of command) (form_stands command)).1 in
    let size = length-append (second_of command) (words_of command) in
    let same = as_many command in
    omega (arith, few, size, same)

-- no plain word is empty
some_each : (words : List (List ℕ)) → AllByRecursion IsPlain words → AllByRecursion (λ word. word ≢ []) words
some_each [] plain = tt
some_each (word ∷ words) plain = ((λ empty. let some = plain.0.some in let none : length word ≡ 0 = ap length empty in omega (arith, some, none)), some_each words plain.1)

-- so a command is written in its form
pub command_written : (types : TypeTable) (closing : Bool) (command : Command) → IsTypeTable types → MayStand types closing command
    → IsWritten (form_of command) (first_of command) (others_of command) (words_of command)
command_written types closing command table may = record {
  first_is = refl;
  others_are = refl;
  as_many = as_many command;
  some_each = some_each (words_of command) (words_plain types (named_by command) table.most_traces (may_be_named types closing command may));
}
