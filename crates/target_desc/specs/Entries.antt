-- What is wrong with the entries for types of a document.
use Rattle.std.specs.Prelude.{◌≡◌, ◌≢◌, ℕ, ◌<◌, List, [], ◌∷◌, length, None, Some, IsSome, Contains, codes}
use Rattle.causal_base.specs.declared.kind.Kind.{Kind}
use Rattle.causal_base.specs.declared.kind.Kind.TheVariants.{Unary, Send, Receive, Sync, Watch}
use Rattle.causal_base.specs.declared.limits.TheConstants.{MOST_TYPES}
use Rattle.causal_base.specs.Spelling.{IsName}
use Rattle.causal_base.specs.TypeTables.{kind_of_mate}
use Rattle.target_desc.specs.declared.target_error.TargetError.{TargetError}
use Rattle.target_desc.specs.declared.target_error.TargetError.TheVariants.{NoTypes, TooManyTypes, BadType, TwiceType, BadKind, MateNeeded, MateGiven, MateUnknown, MateNotMutual}
use Rattle.target_desc.specs.Document.{field, name_field, kind_field, mate_field, entry_keys}
use Rattle.causal_base.specs.Refusals.{Refusals, IsFirst, ArePassed, IsLeast}
use Rattle.target_desc.specs.Traces.{count_told}
use Rattle.toml.specs.Data.{Data}

-- the word for a kind
abbrev pub kind_word : Kind → List ℕ
kind_word Unary = codes "unary"
kind_word Send = codes "send"
kind_word Receive = codes "receive"
kind_word Sync = codes "sync"
kind_word Watch = codes "watch"

-- the entry's types have this kind
abbrev pub HasKind : List Data → ℕ → Kind → Type 0
HasKind entries i kind = kind_field entries i ≡ Some (kind_word kind)

-- its name isn't a string that is a name; so it is where the entry isn't a table
abbrev pub IsBadType : List Data → ℕ → Type 0
IsBadType entries i = (name : List ℕ) → name_field entries i ≡ Some name → IsName name → ⊥

-- an earlier entry has the name
abbrev pub IsTwiceType : List Data → ℕ → Type 0
IsTwiceType entries i = (j : ℕ) × (j < i) × (name_field entries j ≡ name_field entries i)

-- its kind is none of the five words
abbrev pub IsBadKind : List Data → ℕ → Type 0
IsBadKind entries i = (kind : Kind) → HasKind entries i kind → ⊥

-- its kind mates, and its mate isn't a string
abbrev pub NeedsMate : List Data → ℕ → Type 0
NeedsMate entries i = (kind : Kind) × HasKind entries i kind × IsSome (kind_of_mate kind)
    × (mate_field entries i ≡ None)

-- its kind doesn't mate, and it has a mate
abbrev pub HasStrayMate : List Data → ℕ → Type 0
HasStrayMate entries i = (kind : Kind) × HasKind entries i kind × (kind_of_mate kind ≡ None)
    × IsSome (field (codes "mate") entries i)

-- What is wrong with one entry.
abbrev pub entry_refusals : List Data → ℕ → Refusals TargetError
entry_refusals entries i =
    (λ error. IsBadType entries i × (error ≡ BadType i))
    ∷ (λ error. IsTwiceType entries i × (error ≡ TwiceType i))
    ∷ (λ error. IsBadKind entries i × (error ≡ BadKind i))
    ∷ (λ error. NeedsMate entries i × (error ≡ MateNeeded i))
    ∷ (λ error. HasStrayMate entries i × (error ≡ MateGiven i))
    ∷ []

-- the entry is the first with something wrong, which is this
pub record IsRefusedEntry (entries : List Data) (i : ℕ) (error : TargetError) : Type 0 where
  pub below : i < length entries
  pub first : IsFirst (entry_refusals entries i) error
  pub good_before : (j : ℕ) → j < i → ArePassed (entry_refusals entries j)

-- its mate is no entry's name
abbrev pub HasUnknownMate : List Data → ℕ → Type 0
HasUnknownMate entries i = (mate : List ℕ) × (mate_field entries i ≡ Some mate)
    × ((j : ℕ) → j < length entries → name_field entries j ≢ Some mate)

-- Its mate is the entry with this number, which has it as its mate and is of the kind that its kind
-- mates with.
pub record AreMutual (entries : List Data) (i j : ℕ) : Type 0 where
  pub below : j < length entries
  pub forth : mate_field entries i ≡ name_field entries j
  pub back : mate_field entries j ≡ name_field entries i
  pub kind : Kind
  pub its_kind : Kind
  pub is_kind : HasKind entries i kind
  pub is_its_kind : HasKind entries j its_kind
  pub fits : kind_of_mate kind ≡ Some its_kind

-- it has a mate, and no entry is so
abbrev pub HasNoMutualMate : List Data → ℕ → Type 0
HasNoMutualMate entries i = IsSome (mate_field entries i) × ((j : ℕ) → AreMutual entries i j → ⊥)

-- a key of an entry that says nothing
abbrev pub HasStrayKey : List Data → ℕ → Type 0
HasStrayKey entries i = (key : List ℕ) × Contains (entry_keys entries i) key
    × (key ≢ codes "name") × (key ≢ codes "kind") × (key ≢ codes "mate")

-- There are none, or too many, or one has something wrong, or its mate isn't known, or isn't
-- mutual.
abbrev pub type_refusals : List Data → Refusals TargetError
type_refusals entries =
    (λ error. (entries ≡ []) × (error ≡ NoTypes))
    ∷ (λ error. (MOST_TYPES < length entries) × (error ≡ TooManyTypes (count_told entries)))
    ∷ (λ error. (i : ℕ) × IsRefusedEntry entries i error)
    ∷ (λ error. (i : ℕ) × IsLeast (length entries) (HasUnknownMate entries) i
    × (error ≡ MateUnknown i))
    ∷ (λ error. (i : ℕ) × IsLeast (length entries) (HasNoMutualMate entries) i
    × (error ≡ MateNotMutual i))
    ∷ []
