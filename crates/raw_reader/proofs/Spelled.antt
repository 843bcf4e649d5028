use Rattle.std.proofs.Common.{◌≡◌, ℕ, ◌<◌, List, [], ◌∷◌, ◌++◌, length, All, Contains, Some, refl, ◌∙◌, inl, inr, lit≤}
use Rattle.std.specs.Prelude.{decimal}
use Rattle.std.proofs.lemmas.List.Elements.{All-append, All-cons, All-nil, All-contains}
use Rattle.std.proofs.lemmas.List.{get_or_default}
use Rattle.std.proofs.lemmas.Option.{slice_get_cases}
use Rattle.causal_base.specs.declared.event.Event.{Event}
use Rattle.causal_base.specs.declared.kind.Kind.{Kind}
use Rattle.causal_base.specs.Event.{IsFit}
use Rattle.causal_base.specs.Spelling.{id_text, mate_text, name_of, spelling, text_part}
use Rattle.causal_base.specs.Types.{TypeTable, kind_of}
use Rattle.causal_base.specs.TypeTables.{IsTypeTable}
use Rattle.raw_reader.specs.EventParts.{IsOneLine}
use Rattle.raw_reader.specs.Splits.{IsSplit}
use Rattle.raw_reader.proofs.Visible.{IsVisible, decimal_visible, id_visible, mate_visible, name_visible, visible_lacks}

-- a number that has a kind is that of a type
pub has_type : (types : TypeTable) (type_no : ℕ) (kind : Kind) → kind_of types type_no ≡ Some kind → type_no < length types.rows
has_type types type_no kind has = elim (slice_get_cases types.rows type_no).1 [
  | inl within ↦ within.1
  | inr past ↦ absurd (cc)
]

-- the name of a fit event's type is visible
fit_name_visible : (types : TypeTable) (e : Event) → IsTypeTable types → IsFit types e → IsVisible (name_of types e.type_no)
fit_name_visible types e table fit =
    name_visible (name_of types e.type_no) (table.names e.type_no (has_type types e.type_no fit.kind fit.is_of_kind))

-- a fit event is spelled as five fields
pub spelling_is_split : (types : TypeTable) (line : List ℕ) (e : Event) → IsTypeTable types → IsFit types e → line ≡ spelling types e →
    IsSplit line (id_text e.id) (name_of types e.type_no) (mate_text e.mate) (decimal e.time) e.text
spelling_is_split types line e table fit spelled = record {
  whole = spelled;
  id_one_word = visible_lacks 32 _ (lit≤ tt) (id_visible types e.id table.most_traces fit.id);
  name_one_word = visible_lacks 32 _ (lit≤ tt) (fit_name_visible types e table fit);
  mate_one_word = visible_lacks 32 _ (lit≤ tt) (mate_visible types e.mate table.most_traces fit.mate_in_range);
  time_one_word = visible_lacks 32 _ (lit≤ tt) (decimal_visible e.time fit.time);
}

-- bytes that don't contain a byte have none that equals it
pub none_equal : (c : ℕ) (bytes : List ℕ) → (Contains bytes c → ⊥) → All (λ b. b ≡ c → ⊥) bytes
none_equal c bytes none k d within same = none (k, within, get_or_default bytes k c d within ∙ same)

-- a text behind a space has no line feed where the text has none
text_part_one_line : (text : List ℕ) → (Contains text 10 → ⊥) → All (λ b. b ≡ 10 → ⊥) (text_part text)
text_part_one_line [] none = All-nil (λ b. b ≡ 10 → ⊥)
text_part_one_line (c ∷ cs) none = All-cons (λ b. b ≡ 10 → ⊥) 32 (c ∷ cs) (λ same. cc) (none_equal 10 (c ∷ cs) none)

-- a field and what stands behind it have no line feed where neither has one
field_one_line : (field rest : List ℕ) → IsVisible field → All (λ b. b ≡ 10 → ⊥) rest → All (λ b. b ≡ 10 → ⊥) (field ++ 32 ∷ rest)
field_one_line field rest visible none =
    All-append (λ b. b ≡ 10 → ⊥) field (32 ∷ rest) (visible_lacks 10 field (lit≤ tt) visible) (All-cons (λ b. b ≡ 10 → ⊥) 32 rest (λ same. cc) none)

-- a fit event is spelled without a line feed
pub spelling_lacks_line_feed : (types : TypeTable) (e : Event) → IsTypeTable types → IsFit types e → All (λ b. b ≡ 10 → ⊥) (spelling types e)
spelling_lacks_line_feed types e table fit =
    field_one_line (id_text e.id) _ (id_visible types e.id table.most_traces fit.id)
    (field_one_line (name_of types e.type_no) _ (fit_name_visible types e table fit)
    (field_one_line (mate_text e.mate) _ (mate_visible types e.mate table.most_traces fit.mate_in_range)
    (All-append (λ b. b ≡ 10 → ⊥) (decimal e.time) (text_part e.text) (visible_lacks 10 (decimal e.time) (lit≤ tt) (decimal_visible e.time fit.time))
    (text_part_one_line e.text fit.one_line))))

pub spelling_one_line : (types : TypeTable) (e : Event) → IsTypeTable types → IsFit types e → IsOneLine (spelling types e)
spelling_one_line types e table fit has = All-contains (λ b. b ≡ 10 → ⊥) (spelling types e) 10 (spelling_lacks_line_feed types e table fit) has refl
