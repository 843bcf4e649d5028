-- What is kept of the entries for types before their mates have numbers, and what is wrong with
-- their mates.
use Rattle.std.specs.Prelude.{◌≡◌, ◌≢◌, ◌↔◌, ℕ, ◌<◌, List, [], ◌∷◌, length, Option, None, Some, IsSome, MatchOption, slice_get, codes}
use Rattle.std.specs.Option.{option_map}
use Rattle.causal_base.specs.declared.kind.Kind.{Kind}
use Rattle.causal_base.specs.declared.type_row.TypeRow.{TypeRow}
use Rattle.causal_base.specs.Spelling.{IsName}
use Rattle.causal_base.specs.TypeTables.{kind_of_mate}
use Rattle.target_desc.specs.declared.target_error.TargetError.{TargetError}
use Rattle.target_desc.specs.declared.draft.Draft.{Draft}
use Rattle.target_desc.specs.declared.target_error.TargetError.TheVariants.{MateUnknown, MateNotMutual}
use Rattle.target_desc.specs.Document.{field, name_field, mate_field}
use Rattle.target_desc.specs.Entries.{HasKind, IsTwiceType, entry_refusals}
use Rattle.causal_base.specs.Refusals.{Refusals, ArePassed, IsLeast}
use Rattle.toml.specs.Data.{Data}

-- The entry's name is this one, which is a name, and no earlier entry has it.
pub record IsNamed (entries : List Data) (i : ℕ) (name : List ℕ) : Type 0 where
  pub named : name_field entries i ≡ Some name
  pub is_name : IsName name
  pub once : IsTwiceType entries i → ⊥

-- The entry has a mate that is a string where this kind mates, and else no mate.
pub record HasItsMate (entries : List Data) (i : ℕ) (kind : Kind) : Type 0 where
  pub needed : IsSome (kind_of_mate kind) → IsSome (mate_field entries i)
  pub given : kind_of_mate kind ≡ None → IsSome (field (codes "mate") entries i) → ⊥

-- The draft is what the entry with this number says, which has a mate exactly where its kind mates.
pub record IsDraftOf (entries : List Data) (i : ℕ) (draft : Draft) : Type 0 where
  pub named : name_field entries i ≡ Some draft.name
  pub is_name : IsName draft.name
  pub has_kind : HasKind entries i draft.kind
  pub mate : mate_field entries i ≡ draft.mate
  pub mates : IsSome draft.mate ↔ IsSome (kind_of_mate draft.kind)

-- The drafts are what the first entries say, and nothing is wrong with one of these alone.
pub record AreDraftsOf (entries : List Data) (drafts : List Draft) : Type 0 where
  pub each : (i : ℕ) (draft : Draft) → slice_get drafts i ≡ Some draft → IsDraftOf entries i draft
  pub good : (i : ℕ) → i < length drafts → ArePassed (entry_refusals entries i)

-- the name of the draft with this number
abbrev pub draft_name : List Draft → ℕ → Option (List ℕ)
draft_name drafts i = option_map (λ draft. draft.name) (slice_get drafts i)

-- no two drafts have one name
abbrev pub AreDistinct : List Draft → Type 0
AreDistinct drafts = (i j : ℕ) (name : List ℕ) → draft_name drafts i ≡ Some name
    → draft_name drafts j ≡ Some name → i ≡ j

-- the mate of this draft is no draft's name
abbrev pub MateIsUnknown : List Draft → Draft → Type 0
MateIsUnknown drafts draft = (mate : List ℕ) × (draft.mate ≡ Some mate)
    × ((j : ℕ) → draft_name drafts j ≢ Some mate)

-- Each of the two drafts has the other as its mate, and their kinds mate.
pub record AreMutualDrafts (draft its : Draft) : Type 0 where
  pub forth : draft.mate ≡ Some its.name
  pub back : its.mate ≡ Some draft.name
  pub fits : kind_of_mate draft.kind ≡ Some its.kind

-- this draft has a mate, and is mutual with no draft
abbrev pub MateIsNotMutual : List Draft → Draft → Type 0
MateIsNotMutual drafts draft = IsSome draft.mate
    × ((j : ℕ) (its : Draft) → slice_get drafts j ≡ Some its → AreMutualDrafts draft its → ⊥)

-- the draft with this number has the property
abbrev pub HasAt : (Draft → Type 0) → List Draft → ℕ → Type 0
HasAt Has drafts i = (draft : Draft) × (slice_get drafts i ≡ Some draft) × Has draft

-- Each draft that has a mate is mutual with a draft.
pub record MatesAgree (drafts : List Draft) : Type 0 where
  pub known : (i : ℕ) → HasAt (MateIsUnknown drafts) drafts i → ⊥
  pub mutual_mates : (i : ℕ) → HasAt (MateIsNotMutual drafts) drafts i → ⊥

-- A draft's mate is unknown, or isn't mutual.
abbrev pub mate_refusals : List Draft → Refusals TargetError
mate_refusals drafts =
    (λ error. (i : ℕ) × IsLeast (length drafts) (HasAt (MateIsUnknown drafts) drafts) i
    × (error ≡ MateUnknown i))
    ∷ (λ error. (i : ℕ) × IsLeast (length drafts) (HasAt (MateIsNotMutual drafts) drafts) i
    × (error ≡ MateNotMutual i))
    ∷ []

-- the number is that of the draft that this one's mate names, where it has one and it is known
abbrev pub IsMateNumber : List Draft → Draft → Option ℕ → Type 0
IsMateNumber drafts draft number = MatchOption draft.mate (number ≡ None)
    (λ mate. MatchOption number ((j : ℕ) → draft_name drafts j ≢ Some mate)
    (λ n. draft_name drafts n ≡ Some mate))

-- there is such a number for each draft
pub record AreMateNumbers (drafts : List Draft) (numbers : List (Option ℕ)) : Type 0 where
  pub count : length numbers ≡ length drafts
  pub each : (i : ℕ) (draft : Draft) (number : Option ℕ) → slice_get drafts i ≡ Some draft
      → slice_get numbers i ≡ Some number → IsMateNumber drafts draft number

-- There is a row for each draft, with its name, its kind and the number of its mate.
pub record AreRowsOf (drafts : List Draft) (rows : List TypeRow) : Type 0 where
  pub count : length rows ≡ length drafts
  pub names : (i : ℕ) (draft : Draft) (row : TypeRow) → slice_get drafts i ≡ Some draft
      → slice_get rows i ≡ Some row → row.name ≡ draft.name
  pub kinds : (i : ℕ) (draft : Draft) (row : TypeRow) → slice_get drafts i ≡ Some draft
      → slice_get rows i ≡ Some row → row.kind ≡ draft.kind
  pub mates : (i : ℕ) (draft : Draft) (row : TypeRow) → slice_get drafts i ≡ Some draft
      → slice_get rows i ≡ Some row → IsMateNumber drafts draft row.mate
