use Rattle.std.specs.Prelude.{◌≡◌, ℕ, ◌<◌, ◌≤◌, length, Option, None, Some, option_and_then, MatchOption}
use Rattle.causal_base.specs.declared.kind.Kind.{Kind}
use Rattle.causal_base.specs.declared.kind.Kind.TheVariants.{Unary, Send, Receive, Sync, Watch}
use Rattle.causal_base.specs.declared.limits.TheConstants.{MOST_TRACES, MOST_TYPES}
use Rattle.causal_base.specs.Types.{TypeTable, kind_of, mate_of, AreMates}
use Rattle.causal_base.specs.Spelling.{IsName, name_of}

-- the kind of the type that a type of this kind mates with, where it mates
abbrev pub kind_of_mate : Kind → Option Kind
kind_of_mate Unary = None
kind_of_mate Send = Some Receive
kind_of_mate Receive = Some Send
kind_of_mate Sync = Some Sync
kind_of_mate Watch = None

-- The type mates with a type of the right kind, which mates with it, or with none where its kind
-- has no mate.
abbrev pub MatesRightly : TypeTable → ℕ → Type 0
MatesRightly types type_no = MatchOption (option_and_then kind_of_mate (kind_of types type_no))
    (mate_of types type_no ≡ None)
    (λ kind. (mate : ℕ) × AreMates types type_no mate × (kind_of types mate ≡ Some kind))

-- What every table of types meets: 1 to 256 traces, 1 to 64 types, names that are names and differ,
-- and mates that agree.
pub record IsTypeTable (types : TypeTable) : Type 0 where
  pub some_trace : 1 ≤ types.traces
  pub most_traces : types.traces ≤ MOST_TRACES
  pub some_type : 1 ≤ length types.rows
  pub most_types : length types.rows ≤ MOST_TYPES
  pub names : (type_no : ℕ) → type_no < length types.rows → IsName (name_of types type_no)
  pub distinct : (a b : ℕ) → a < length types.rows → b < length types.rows
      → name_of types a ≡ name_of types b → a ≡ b
  pub mates : (type_no : ℕ) → type_no < length types.rows → MatesRightly types type_no
