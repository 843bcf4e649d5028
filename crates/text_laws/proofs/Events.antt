-- The spelling of a fit event, with a line feed behind it, is read in one way.
use Rattle.std.proofs.Common.{◌≡◌, ◌≢◌, ℕ, ◌^◌, ◌<◌, ◌≤◌, true, inl, inr, List, [], ◌∷◌, ◌++◌, length, All, Option, Some, None, IfSome, refl, sym, ◌∙◌, ap, arith, append_assoc}
use Rattle.std.specs.Prelude.{Contains, decimal, nat_le, ◌&&◌, ◌||◌, ◌==◌}
use Rattle.std.specs.List.{list_all}
use Rattle.std.proofs.lemmas.Bool.{and_parts, or_cases, leb-true, eqb-true}
use Rattle.std.proofs.lemmas.List.{get_or_default}
use Rattle.std.proofs.lemmas.Option.{slice_get_cases}
use Rattle.causal_base.specs.declared.event.Event.{Event}
use Rattle.causal_base.specs.declared.event_id.EventId.{EventId}
use Rattle.causal_base.specs.Event.{IsFit, IsInRange}
use Rattle.causal_base.specs.Fields.{SplitsOnce}
use Rattle.causal_base.specs.Spelling.{IsName, id_text, is_letter, is_name_byte, mate_text, name_of, spelling, text_part}
use Rattle.causal_base.specs.Types.{TypeTable}
use Rattle.causal_base.specs.TypeTables.{IsTypeTable}
use Rattle.causal_base.proofs.CallerLemmas.{below_two_to_64, split_in_one_way}
use Rattle.text_laws.proofs.Tokens.{AreSame, IsHigh, decimal_is_high, high_once, id_once, number_once}

-- an id in range, and what stands behind it
pub range_once : (types : TypeTable) (a b : EventId) (c d : ℕ) (rest more : List ℕ) → types.traces ≤ 256 → IsInRange types a → IsInRange types b → c < 48 → d < 48 → id_text a ++ c ∷ rest ≡ id_text b ++ d ∷ more → AreSame a b c d rest more
range_once types a b c d rest more few range_a range_b low low_too same =
    id_once a b c d rest more (omega (arith, range_a.trace)) (omega (arith, range_b.trace)) (omega (arith, range_a.most)) (omega (arith, range_b.most)) low low_too same

-- what an event names, with a space behind it
mate_once : (types : TypeTable) (a b : Option EventId) (rest more : List ℕ) → types.traces ≤ 256 → IfSome a (IsInRange types) → IfSome b (IsInRange types) → mate_text a ++ 32 ∷ rest ≡ mate_text b ++ 32 ∷ more → (a ≡ b) × (rest ≡ more)
mate_once types None None rest more few range_a range_b same = (refl, cc)
mate_once types None (Some b) rest more few range_a range_b same =
    let parted : 45 ∷ (32 ∷ rest) ≡ decimal b.trace ++ 46 ∷ (decimal b.number ++ 32 ∷ more) = same ∙ append_assoc (decimal b.trace) (46 ∷ decimal b.number) (32 ∷ more) in
    let wrong = (high_once [] (decimal b.trace) 45 46 (32 ∷ rest) (decimal b.number ++ 32 ∷ more) tt (decimal_is_high b.trace) (omega arith) (omega arith) parted).1 in
    absurd (omega (arith, wrong))
mate_once types (Some a) None rest more few range_a range_b same =
    let parted : decimal a.trace ++ 46 ∷ (decimal a.number ++ 32 ∷ rest) ≡ 45 ∷ (32 ∷ more) = sym (append_assoc (decimal a.trace) (46 ∷ decimal a.number) (32 ∷ rest)) ∙ same in
    let wrong = (high_once (decimal a.trace) [] 46 45 (decimal a.number ++ 32 ∷ rest) (32 ∷ more) (decimal_is_high a.trace) tt (omega arith) (omega arith) parted).1 in
    absurd (omega (arith, wrong))
mate_once types (Some a) (Some b) rest more few range_a range_b same =
    let once = range_once types a b 32 32 rest more few range_a range_b (omega arith) (omega arith) same in
    (ap Some once.0, once.2)

-- the bytes of a name are no lower than digits
letter_is_high : (c : ℕ) → is_letter c ≡ true → 48 ≤ c
letter_is_high c letter = elim (or_cases (nat_le 97 c && nat_le c 122) (nat_le 65 c && nat_le c 90) letter) [
  | inl low ↦ omega (arith, leb-true 97 c (and_parts _ _ low).0)
  | inr high ↦ omega (arith, leb-true 65 c (and_parts _ _ high).0)
]

name_byte_is_high : (c : ℕ) → is_name_byte c ≡ true → 48 ≤ c
name_byte_is_high c name = elim (or_cases (is_letter c) ((nat_le 48 c && nat_le c 57) || (c == 95)) name) [
  | inl letter ↦ letter_is_high c letter
  | inr other ↦ elim (or_cases (nat_le 48 c && nat_le c 57) (c == 95) other) [
    | inl digit ↦ leb-true 48 c (and_parts _ _ digit).0
    | inr line ↦ omega (arith, eqb-true c 95 line)
  ]
]

name_bytes_are_high : (bytes : List ℕ) → list_all is_name_byte bytes ≡ true → IsHigh bytes
name_bytes_are_high [] name = tt
name_bytes_are_high (c ∷ cs) name =
    let parts = and_parts (is_name_byte c) (list_all is_name_byte cs) name in
    (name_byte_is_high c parts.0, name_bytes_are_high cs parts.1)

name_is_high : (bytes : List ℕ) → IsName bytes → IsHigh bytes
name_is_high [] name = tt
name_is_high (c ∷ cs) name =
    let parts = and_parts (is_letter c) (nat_le (length cs) 31 && list_all is_name_byte cs) name in
    (letter_is_high c parts.0, name_bytes_are_high cs (and_parts (nat_le (length cs) 31) (list_all is_name_byte cs) parts.1).1)

-- a fit event is of a type of the table
in_table : (types : TypeTable) (e : Event) → IsFit types e → e.type_no < length types.rows
in_table types e fit = elim (slice_get_cases types.rows e.type_no).1 [
  | inl within ↦ within.1
  | inr past ↦ let is = fit.is_of_kind in absurd (cc)
]

-- the name of a fit event's type, with a space behind it
name_once : (types : TypeTable) (a b : Event) (rest more : List ℕ) → IsTypeTable types → IsFit types a → IsFit types b → name_of types a.type_no ++ 32 ∷ rest ≡ name_of types b.type_no ++ 32 ∷ more → (a.type_no ≡ b.type_no) × (rest ≡ more)
name_once types a b rest more table fit_a fit_b same =
    let in_a = in_table types a fit_a in
    let in_b = in_table types b fit_b in
    let once = high_once (name_of types a.type_no) (name_of types b.type_no) 32 32 rest more (name_is_high _ (table.names a.type_no in_a)) (name_is_high _ (table.names b.type_no in_b)) (omega arith) (omega arith) same in
    (table.distinct a.type_no b.type_no in_a in_b once.0, once.2)

-- bytes that don't contain a byte have none that equals it
none_equal : (c : ℕ) (bytes : List ℕ) → (Contains bytes c → ⊥) → All (λ b. b ≢ c) bytes
none_equal c bytes none k d within same = none (k, within, get_or_default bytes k c d within ∙ same)

-- a time and a text, with a line feed behind them
end_once : (m n : ℕ) (text other : List ℕ) (rest more : List ℕ) → m < 2 ^ 64 → n < 2 ^ 64 → (Contains text 10 → ⊥) → (Contains other 10 → ⊥) → decimal m ++ (text_part text ++ 10 ∷ rest) ≡ decimal n ++ (text_part other ++ 10 ∷ more) → (m ≡ n) × (text ≡ other) × (rest ≡ more)
end_once m n [] [] rest more fits fits_too none none_too same =
    let once = number_once m n 10 10 rest more fits fits_too (omega arith) (omega arith) same in (once.0, refl, once.2)
end_once m n [] (d ∷ ds) rest more fits fits_too none none_too same =
    let once = number_once m n 10 32 rest ((d ∷ ds) ++ 10 ∷ more) fits fits_too (omega arith) (omega arith) same in
    let wrong = once.1 in absurd (omega (arith, wrong))
end_once m n (c ∷ cs) [] rest more fits fits_too none none_too same =
    let once = number_once m n 32 10 ((c ∷ cs) ++ 10 ∷ rest) more fits fits_too (omega arith) (omega arith) same in
    let wrong = once.1 in absurd (omega (arith, wrong))
end_once m n (c ∷ cs) (d ∷ ds) rest more fits fits_too none none_too same =
    let once = number_once m n 32 32 ((c ∷ cs) ++ 10 ∷ rest) ((d ∷ ds) ++ 10 ∷ more) fits fits_too (omega arith) (omega arith) same in
    let one : SplitsOnce 10 ((c ∷ cs) ++ 10 ∷ rest) (c ∷ cs) rest = record { whole = refl; first = none_equal 10 (c ∷ cs) none } in
    let another : SplitsOnce 10 ((c ∷ cs) ++ 10 ∷ rest) (d ∷ ds) more = record { whole = once.2; first = none_equal 10 (d ∷ ds) none_too } in
    let texts = split_in_one_way 10 ((c ∷ cs) ++ 10 ∷ rest) (c ∷ cs) rest (d ∷ ds) more one another in
    (once.0, texts.0, texts.1)

-- the parts of a spelling
spelling_parted : (types : TypeTable) (e : Event) (rest : List ℕ) → spelling types e ++ rest ≡
    id_text e.id ++ 32 ∷ (name_of types e.type_no ++ 32 ∷ (mate_text e.mate ++ 32 ∷ (decimal e.time ++ (text_part e.text ++ rest))))
spelling_parted types e rest =
    append_assoc (id_text e.id) _ rest
    ∙ ap (λ (x : List ℕ). id_text e.id ++ 32 ∷ x) (append_assoc (name_of types e.type_no) _ rest
    ∙ ap (λ (x : List ℕ). name_of types e.type_no ++ 32 ∷ x) (append_assoc (mate_text e.mate) _ rest
    ∙ ap (λ (x : List ℕ). mate_text e.mate ++ 32 ∷ x) (append_assoc (decimal e.time) (text_part e.text) rest)))

-- a fit event, and what stands behind its line feed
pub event_once : (types : TypeTable) (a b : Event) (rest more : List ℕ) → IsTypeTable types → IsFit types a → IsFit types b → spelling types a ++ 10 ∷ rest ≡ spelling types b ++ 10 ∷ more → (a ≡ b) × (rest ≡ more)
event_once types a b rest more table fit_a fit_b same =
    let parted = sym (spelling_parted types a (10 ∷ rest)) ∙ (same ∙ spelling_parted types b (10 ∷ more)) in
    let ids = range_once types a.id b.id 32 32 _ _ table.most_traces fit_a.id fit_b.id (omega arith) (omega arith) parted in
    let names = name_once types a b _ _ table fit_a fit_b ids.2 in
    let mates = mate_once types a.mate b.mate _ _ table.most_traces fit_a.mate_in_range fit_b.mate_in_range names.1 in
    let ends = end_once a.time b.time a.text b.text rest more (below_two_to_64 a.time fit_a.time) (below_two_to_64 b.time fit_b.time) fit_a.one_line fit_b.one_line mates.1 in (
      ap (λ v. record a { id = v }) ids.0
          ∙ (ap (λ v. record { id = b.id; type_no = v; mate = a.mate; time = a.time; text = a.text }) names.0
          ∙ (ap (λ v. record { id = b.id; type_no = b.type_no; mate = v; time = a.time; text = a.text }) mates.0
          ∙ (ap (λ v. record { id = b.id; type_no = b.type_no; mate = b.mate; time = v; text = a.text }) ends.0
          ∙ ap (λ v. record { id = b.id; type_no = b.type_no; mate = b.mate; time = b.time; text = v }) ends.1))),
      ends.2,
    )
