use Rattle.std.specs.Prelude.{◌≡◌, ◌≢◌, ◌<◌, ◌⊎◌, ℕ, List, [], ◌∷◌, ◌++◌, length, Some, codes}
use Rattle.causal_base.specs.declared.fields.IdFault.{IdFault}
use Rattle.causal_base.specs.declared.fields.IdFault.TheVariants as id_fault
use Rattle.causal_base.specs.declared.kind.Kind.{Kind}
use Rattle.causal_base.specs.declared.limits.TheConstants.{MOST_TEXT}
use Rattle.causal_base.specs.Event.{NamesAnother}
use Rattle.causal_base.specs.Fields.{IsNoId, NamesNoTrace, NamesNoNumber}
use Rattle.causal_base.specs.Refusals.{Refusals, refuses, IsFirst, ArePassed}
use Rattle.causal_base.specs.Spelling.{IsNumber, name_of}
use Rattle.causal_base.specs.Types.{TypeTable, kind_of}
use Rattle.raw_reader.specs.declared.cause.LineCause.{LineCause}
use Rattle.raw_reader.specs.declared.cause.LineCause.TheVariants.{Shape, BadId, NoTrace, BadNumber, NoType, MateGiven, MateMissing, BadTime, LongText}
use Rattle.raw_reader.specs.Splits.{IsSplit}

-- what may be wrong with an id
abbrev pub id_faults : ℕ → List ℕ → Refusals LineCause
id_faults traces id =
    refuses (IsNoId id) BadId
    ∷ refuses (NamesNoTrace id traces) NoTrace
    ∷ refuses (NamesNoNumber id traces) BadNumber
    ∷ []

-- the cause of each fault of an id
abbrev pub id_cause : IdFault → LineCause
id_cause id_fault.BadId = BadId
id_cause id_fault.NoTrace = NoTrace
id_cause id_fault.BadNumber = BadNumber

-- what may be wrong with what an event of this kind names
abbrev pub mate_faults : ℕ → Kind → List ℕ → Refusals LineCause
mate_faults traces kind mate =
    refuses ((¬ NamesAnother kind) × (mate ≢ codes "-")) MateGiven
    ∷ refuses (NamesAnother kind × (mate ≡ codes "-")) MateMissing
    ∷ refuses (NamesAnother kind × IsNoId mate) BadId
    ∷ refuses (NamesAnother kind × NamesNoTrace mate traces) NoTrace
    ∷ refuses (NamesAnother kind × NamesNoNumber mate traces) BadNumber
    ∷ []

-- what may be wrong with a time and a text
abbrev pub end_faults : List ℕ → List ℕ → Refusals LineCause
end_faults time text =
    refuses ((n : ℕ) → IsNumber time n → ⊥) BadTime
    ∷ refuses (MOST_TEXT < length text) LongText
    ∷ []

-- the fields of a line, and the text behind them
pub record Fields : Type 0 where
  pub id : List ℕ
  pub name : List ℕ
  pub mate : List ℕ
  pub time : List ℕ
  pub text : List ℕ

-- The line is these fields, none of the four empty, with one space between them.
pub record AreFields (line : List ℕ) (fields : Fields) : Type 0 where
  pub split : IsSplit line fields.id fields.name fields.mate fields.time fields.text
  pub some_id : fields.id ≢ []
  pub some_name : fields.name ≢ []
  pub some_mate : fields.mate ≢ []
  pub some_time : fields.time ≢ []

-- the events of the type with this name are of this kind
pub record HasType (types : TypeTable) (name : List ℕ) (kind : Kind) : Type 0 where
  pub type_no : ℕ
  pub in_table : type_no < length types.rows
  pub named : name_of types type_no ≡ name
  pub is_of_kind : kind_of types type_no ≡ Some kind

-- no type has this name
abbrev pub IsNoType : TypeTable → List ℕ → Type 0
IsNoType types name = (type_no : ℕ) → type_no < length types.rows → name_of types type_no ≢ name

-- What is wrong with the fields of a line: with the id, then with the type, and then, by the kind
-- of the type, with what the event names, the time and the text.
abbrev pub IsFieldsCause : TypeTable → Fields → LineCause → Type 0
IsFieldsCause types fields cause = IsFirst (id_faults types.traces fields.id) cause
    ⊎ (ArePassed (id_faults types.traces fields.id)
    × ((IsNoType types fields.name × (cause ≡ NoType))
    ⊎ ((kind : Kind) × HasType types fields.name kind
    × IsFirst (mate_faults types.traces kind fields.mate ++ end_faults fields.time fields.text)
    cause)))

-- What is wrong with a line, ended and not too long, that isn't a full stop alone: its shape, or
-- its fields.
abbrev pub IsCause : TypeTable → List ℕ → LineCause → Type 0
IsCause types line cause = (((fields : Fields) → AreFields line fields → ⊥) × (cause ≡ Shape))
    ⊎ ((fields : Fields) × AreFields line fields × IsFieldsCause types fields cause)
