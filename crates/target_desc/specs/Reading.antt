-- What the bytes of a target file are read as, or why they are refused.
use Rattle.std.specs.Prelude.{◌≡◌, ◌≢◌, ℕ, ◌<◌, ◌≤◌, ◌⊎◌, List, [], ◌∷◌, ◌++◌, length, map, Some, Contains, codes, IsUtf8}
use Rattle.std.specs.Option.{option_map}
use Rattle.causal_base.specs.declared.kind.Kind.{Kind}
use Rattle.causal_base.specs.Spelling.{name_of}
use Rattle.causal_base.specs.Types.{TypeTable, kind_of, mate_of}
use Rattle.target_desc.specs.declared.target_error.TargetError.{TargetError}
use Rattle.target_desc.specs.declared.target_error.TargetError.TheVariants.{TooLong, NotToml, StrayKey}
use Rattle.target_desc.specs.declared.limits.TheConstants.{MOST_BYTES}
use Rattle.target_desc.specs.Document.{traces_of, entries_of, keys_of, name_field, mate_field}
use Rattle.target_desc.specs.Entries.{HasKind, HasStrayKey, type_refusals}
use Rattle.causal_base.specs.Refusals.{Refusals, IsFirst, ArePassed}
use Rattle.target_desc.specs.Target.{TargetState}
use Rattle.target_desc.specs.Traces.{trace_refusals}
use Rattle.toml.specs.Data.{Data, string, Members}
use Rattle.toml.specs.Parse.{parse_document}

-- the bytes are the text of this TOML document
pub record IsDocument (bytes : List ℕ) (document : Members) : Type 0 where
  pub utf8 : IsUtf8 bytes
  pub parsed : parse_document bytes ≡ Some document

-- the document or an entry has a key that says nothing
abbrev pub HasStray : Members → Type 0
HasStray document = ((key : List ℕ) × Contains (keys_of document) key × (key ≢ codes "traces")
    × (key ≢ codes "event"))
    ⊎ ((i : ℕ) × (i < length (entries_of document)) × HasStrayKey (entries_of document) i)

-- What is wrong with a document: with its traces, then with its types, then with its keys.
abbrev pub refusals_of : Members → Refusals TargetError
refusals_of document = trace_refusals (traces_of document) ++ type_refusals (entries_of document)
    ++ (λ error. HasStray document × (error ≡ StrayKey)) ∷ []

-- Why bytes are refused: there are too many, they are no document, or something is wrong with the
-- document.
abbrev pub IsRefusedWith : List ℕ → TargetError → Type 0
IsRefusedWith bytes error = ((MOST_BYTES < length bytes) × (error ≡ TooLong))
    ⊎ ((length bytes ≤ MOST_BYTES)
    × ((((document : Members) → IsDocument bytes document → ⊥) × (error ≡ NotToml))
    ⊎ ((document : Members) × IsDocument bytes document × IsFirst (refusals_of document) error)))

-- The type with this number is what the entry with this number says.
pub record IsTypeOf (entries : List Data) (types : TypeTable) (i : ℕ) : Type 0 where
  pub named : name_field entries i ≡ Some (name_of types i)
  pub kind : Kind
  pub is_kind : kind_of types i ≡ Some kind
  pub has_kind : HasKind entries i kind
  pub mate : mate_field entries i ≡ option_map (name_of types) (mate_of types i)

-- The target is what the document says: trace for trace and entry for entry.
pub record IsTargetOf (document : Members) (target : TargetState) : Type 0 where
  pub traces : traces_of document ≡ map string target.traces
  pub count_is : target.types.traces ≡ length target.traces
  pub rows : length target.types.rows ≡ length (entries_of document)
  pub types : (i : ℕ) → i < length (entries_of document)
      → IsTypeOf (entries_of document) target.types i

-- The bytes are a document that isn't refused, and the target is what it says.
pub record IsReadAs (bytes : List ℕ) (target : TargetState) : Type 0 where
  pub within : length bytes ≤ MOST_BYTES
  pub document : Members
  pub is_document : IsDocument bytes document
  pub good : ArePassed (refusals_of document)
  pub says : IsTargetOf document target
