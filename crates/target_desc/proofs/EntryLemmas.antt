-- What is wrong with an entry for a type, or what its draft says.
use Rattle.std.proofs.Common.{◌≡◌, ◌≢◌, ◌↔◌, ℕ, List, length, get_or, Option, None, Some, IsSome, true, false, sym, refl, ap, subst, ◌∙◌, arith}
use Rattle.std.specs.Prelude.{slice_get, codes, option_and_then}
use Rattle.std.specs.Option.{option_map}
use Rattle.causal_base.specs.declared.kind.Kind.{Kind}
use Rattle.causal_base.specs.declared.kind.Kind.TheVariants.{Unary, Send, Receive, Sync, Watch}
use Rattle.causal_base.specs.Spelling.{IsName}
use Rattle.causal_base.specs.TypeTables.{kind_of_mate}
use Rattle.target_desc.specs.declared.draft.Draft.{Draft}
use Rattle.target_desc.specs.Document.{field, text_field, name_field, mate_field}
use Rattle.target_desc.specs.Drafts.{IsNamed, HasItsMate, IsDraftOf, AreDraftsOf, draft_name}
use Rattle.target_desc.specs.Entries.{kind_word, HasKind, IsTwiceType}
use Rattle.target_desc.proofs.Places.{place_below}
use Rattle.toml.specs.Data.{Data, get, as_str}

-- the word tells the kind
pub same_kind : (kind other : Kind) → kind_word kind ≡ kind_word other → kind ≡ other
same_kind Unary Unary same = refl
same_kind Send Send same = refl
same_kind Receive Receive same = refl
same_kind Sync Sync same = refl
same_kind Watch Watch same = refl
same_kind kind other same =
    let first : get_or (kind_word kind) 0 0 ≡ get_or (kind_word other) 0 0 = ap (λ (word : List ℕ). get_or word 0 0) same in
    let second : get_or (kind_word kind) 1 0 ≡ get_or (kind_word other) 1 0 = ap (λ (word : List ℕ). get_or word 1 0) same in
    absurd (omega (arith, first, second))

pub one_kind : (entries : List Data) (i : ℕ) (kind other : Kind) → HasKind entries i kind → HasKind entries i other → kind ≡ other
one_kind entries i kind other has also = same_kind kind other (let same : Some (kind_word kind) ≡ Some (kind_word other) = sym has ∙ also in cc)

-- what stands under a key of the entry at a place
pub field_at : (key : List ℕ) (entries : List Data) (i : ℕ) (entry : Data) → slice_get entries i ≡ Some entry → field key entries i ≡ get key entry
field_at key entries i entry at = ap (option_and_then (get key)) at

pub text_at : (key : List ℕ) (entries : List Data) (i : ℕ) (entry : Data) → slice_get entries i ≡ Some entry → text_field key entries i ≡ option_and_then as_str (get key entry)
text_at key entries i entry at = ap (option_and_then as_str) (field_at key entries i entry at)

pub some_not_none : {A : Type 0} (found : Option A) → IsSome found → found ≡ None → ⊥
some_not_none found some none = absurd (let clash : false ≡ true = subst IsSome none some in cc)

some_under : (found : Option Data) → IsSome (option_and_then as_str found) → IsSome found
some_under None some = some
some_under (Some value) some = refl

mates_where : (mates : Option Kind) (under : Option Data) → (IsSome mates → IsSome (option_and_then as_str under)) → (mates ≡ None → IsSome under → ⊥)
    → IsSome (option_and_then as_str under) ↔ IsSome mates
mates_where None under needed given = ((λ some. absurd (given refl (some_under under some))), (λ none. absurd (let clash : false ≡ true = none in cc)))
mates_where (Some kind) under needed given = ((λ some. refl), (λ some. needed refl))

module _ (entries : List Data) (i : ℕ) (name : List ℕ) (is_named : IsNamed entries i name) where
  pub draft_says : (draft : Draft) → draft.name ≡ name → HasKind entries i draft.kind → HasItsMate entries i draft.kind → mate_field entries i ≡ draft.mate → IsDraftOf entries i draft
  draft_says draft same has its mate = record {
    named = is_named.named ∙ ap Some (sym same);
    is_name = subst IsName (sym same) is_named.is_name;
    has_kind = has;
    mate = mate;
    mates = subst (λ mate. IsSome mate ↔ IsSome (kind_of_mate draft.kind)) mate (mates_where (kind_of_mate draft.kind) (field (codes "mate") entries i) its.needed its.given);
  }

-- no earlier entry has a name that the drafts of these don't have
pub once_from : (entries : List Data) (earlier : List Draft) (i : ℕ) (name : List ℕ) → length earlier ≡ i → AreDraftsOf entries earlier → ((j : ℕ) → draft_name earlier j ≢ Some name)
    → name_field entries i ≡ Some name → IsTwiceType entries i → ⊥
once_from entries earlier i name count are none named twice =
    let draft = place_below earlier twice.0 (omega (arith, twice.1, count)) in
    none twice.0 (ap (option_map (λ (draft : Draft). draft.name)) draft.1 ∙ (sym (are.each twice.0 draft.0 draft.1).named ∙ (twice.2 ∙ named)))
