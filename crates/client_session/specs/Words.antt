-- How a line is taken apart: the words of a command's own, and what stands behind them.
use Rattle.std.specs.Prelude.{◌≡◌, ◌≢◌, ◌<◌, ◌⊎◌, ℕ, Bool, List, [], ◌∷◌, ◌++◌, length, Contains, Option, None, Some, codes, decimal}
use Rattle.std.specs.List.{AllByRecursion, flat_map}
use Rattle.causal_base.specs.Refusals.{Refusals, refuses}
use Rattle.causal_base.specs.declared.event_id.EventId.{EventId}
use Rattle.causal_base.specs.Event.{IsInRange}
use Rattle.causal_base.specs.Spelling.{IsNumber, id_text}
use Rattle.causal_base.specs.Types.{TypeTable}
use Rattle.client_session.specs.declared.own_words.CutWord.{CutWord}
use Rattle.client_session.specs.declared.own_words.CutWord.TheVariants as cut
use Rattle.client_session.specs.declared.own_words.FirstWord.{FirstWord}
use Rattle.client_session.specs.declared.own_words.FirstWord.TheVariants.{Before, Relation, Event, Stamp, GreatestBefore, LeastAfter, Cut, Count, Await}
use Rattle.client_session.specs.declared.script_error.ScriptCause.{ScriptCause}
use Rattle.client_session.specs.declared.script_error.ScriptCause.TheVariants.{Shape}
use Rattle.client_session.specs.Scripts.{AnId, AreWords, Argument, Form, IsOneWord, IsWordsCause, arguments_faults, form_faults}

-- the bytes of a first word
abbrev pub first_text : FirstWord → List ℕ
first_text Before = codes "before"
first_text Relation = codes "relation"
first_text Event = codes "event"
first_text Stamp = codes "stamp"
first_text GreatestBefore = codes "gp"
first_text LeastAfter = codes "ls"
first_text Cut = codes "cut"
first_text Count = codes "count"
first_text Await = codes "await"

-- the bytes of a second word behind `cut`
abbrev pub cut_text : CutWord → List ℕ
cut_text cut.None = codes "none"
cut_text cut.All = codes "all"
cut_text cut.To = codes "to"
cut_text cut.Back = codes "back"
cut_text cut.Has = codes "has"

-- what stands behind it
abbrev pub cut_arguments : CutWord → List Argument
cut_arguments cut.None = []
cut_arguments cut.All = []
cut_arguments cut.To = AnId ∷ []
cut_arguments cut.Back = AnId ∷ []
cut_arguments cut.Has = AnId ∷ []

-- The bytes are a word, and what stands behind it: nothing, or a space and more.
pub record IsWordBefore (bytes first rest : List ℕ) : Type 0 where
  pub whole : bytes ≡ first ++ rest
  pub one_word : IsOneWord first

-- nothing, or a space and more
abbrev pub behind : Option (List ℕ) → List ℕ
behind None = []
behind (Some more) = 32 ∷ more

-- The bytes are these words, with a space before each.
pub record AreOthers (bytes : List ℕ) (words : List (List ℕ)) : Type 0 where
  pub whole : bytes ≡ flat_map (λ word. 32 ∷ word) words
  pub one_word_each : AllByRecursion IsOneWord words

-- The same, and none of them is empty.
pub record AreAllWords (bytes : List ℕ) (words : List (List ℕ)) : Type 0 where
  pub others : AreOthers bytes words
  pub some_each : AllByRecursion (λ word. word ≢ []) words

-- The bytes are a space, a word that isn't empty, and the rest.
pub record IsNextWord (bytes word rest : List ℕ) : Type 0 where
  pub whole : bytes ≡ 32 ∷ (word ++ rest)
  pub one_word : IsOneWord word
  pub some : word ≢ []

-- the bytes are no words, or the first of them is empty
abbrev pub LacksNextWord : List ℕ → Type 0
LacksNextWord bytes = (words : List (List ℕ)) → AreOthers bytes words
    → (words ≡ []) ⊎ ((rest : List (List ℕ)) × (words ≡ [] ∷ rest))

-- there are more words or fewer than so many, or an empty one
abbrev pub IsBadShape : ℕ → List (List ℕ) → Type 0
IsBadShape count words = (length words ≢ count) ⊎ Contains words []

-- what may be wrong with the words behind a command's own where these arguments stand there
abbrev pub words_faults : ℕ → List Argument → List (List ℕ) → Refusals ScriptCause
words_faults traces arguments words =
    refuses (IsBadShape (length arguments) words) Shape ∷ arguments_faults traces arguments words

-- what may be wrong with them in this form
abbrev pub written_faults : ℕ → Bool → Form → List (List ℕ) → Refusals ScriptCause
written_faults traces closing form words =
    refuses (IsBadShape (length form.arguments) words) Shape
    ∷ form_faults traces closing form words

-- what is wrong with the words of a line, whichever they are
abbrev pub HasWordsCause : ℕ → Bool → List ℕ → ScriptCause → Type 0
HasWordsCause traces closing line cause = (first : List ℕ) × (others : List (List ℕ))
    × AreWords line first others × IsWordsCause traces closing first others cause

-- The bytes are an id behind a space.
pub record IsIdBehind (types : TypeTable) (bytes : List ℕ) (id : EventId) : Type 0 where
  pub spelled : bytes ≡ codes " " ++ id_text id
  pub in_range : IsInRange types id

-- The bytes are two ids, each behind a space.
pub record AreIdsBehind (types : TypeTable) (bytes : List ℕ) (a b : EventId) : Type 0 where
  pub spelled : bytes ≡ codes " " ++ id_text a ++ codes " " ++ id_text b
  pub first_in_range : IsInRange types a
  pub second_in_range : IsInRange types b

-- The bytes are the number of one of so many traces.
pub record IsTraceInRange (bytes : List ℕ) (traces trace : ℕ) : Type 0 where
  pub is_number : IsNumber bytes trace
  pub among : trace < traces

-- The bytes are an id and the number of a trace, each behind a space.
pub record AreIdAndTraceBehind (types : TypeTable) (bytes : List ℕ) (id : EventId) (trace : ℕ)
    : Type 0 where
  pub spelled : bytes ≡ codes " " ++ id_text id ++ codes " " ++ decimal trace
  pub in_range : IsInRange types id
  pub is_trace : trace < types.traces
