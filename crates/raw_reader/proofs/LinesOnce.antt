-- A text is good lines and a tail in one way.
use Rattle.std.proofs.Common.{◌≡◌, ◌≢◌, ◌≤◌, ℕ, inl, inr, List, [], ◌∷◌, ◌++◌, length, Option, Some, None, refl, sym, ◌∙◌, ap, subst, arith, append_assoc, length-append}
use Rattle.std.specs.Prelude.{Contains, ◌&&◌, nat_le, codes, decimal, IfSome}
use Rattle.std.specs.List.{AllByRecursion, list_all}
use Rattle.std.proofs.lemmas.Bool.{and_parts, leb-true}
use Rattle.std.proofs.lemmas.Fmt.{length-decimal-le}
use Rattle.std.proofs.lemmas.List.Elements.{All-cons, All-nil, Contains-append_right}
use Rattle.causal_base.specs.declared.event.Event.{Event}
use Rattle.causal_base.specs.declared.event_id.EventId.{EventId}
use Rattle.causal_base.specs.Event.{IsFit, IsInRange}
use Rattle.causal_base.specs.Fields.{SplitsOnce}
use Rattle.causal_base.specs.Spelling.{IsId, IsName, is_letter, is_name_byte, id_text, mate_text, name_of, spelling, text_part}
use Rattle.causal_base.specs.Types.{TypeTable}
use Rattle.causal_base.specs.TypeTables.{IsTypeTable}
use Rattle.causal_base.proofs.CallerLemmas.{below_two_to_64, split_in_one_way, has_none, same_id, id_once, number_once, Contains-here, Contains-cons, Contains-nil}
use Rattle.raw_reader.specs.declared.cause.LineCause.{LineCause}
use Rattle.raw_reader.specs.Causes.{IsCause}
use Rattle.raw_reader.specs.EventParts.{IsOneLine}
use Rattle.raw_reader.specs.declared.limits.TheConstants.{MOST_LINE}
use Rattle.raw_reader.specs.Texts.{TextLine, stop, says, line_bytes, IsFitLine, text_of_lines, IsTailCause}
use Rattle.raw_reader.proofs.FirstFaults.{spelled_has_no_cause, dash_is_no_id}
use Rattle.raw_reader.proofs.Spelled.{has_type, none_equal, spelling_is_split, spelling_one_line}
use Rattle.raw_reader.proofs.Splitting.{split_once}

-- an id in range has its text alone
id_once_in_text : (types : TypeTable) (a b : EventId) → types.traces ≤ 256 → IsInRange types a → IsInRange types b → id_text a ≡ id_text b → a ≡ b
id_once_in_text types a b few range_a range_b same =
    let is_a : IsId (id_text a) a.trace a.number = record { small_trace = omega (arith, few, range_a.trace); small_number = omega (arith, range_a.most); spelled = refl } in
    let is_b : IsId (id_text a) b.trace b.number = record { small_trace = omega (arith, few, range_b.trace); small_number = omega (arith, range_b.most); spelled = same } in
    let once = id_once (id_text a) a.trace a.number b.trace b.number is_a is_b in
    same_id a b once.0 once.1

mate_once : (types : TypeTable) (a b : Option EventId) → types.traces ≤ 256 → IfSome a (IsInRange types) → IfSome b (IsInRange types) → mate_text a ≡ mate_text b → a ≡ b
mate_once types None None few range_a range_b same = refl
mate_once types None (Some b) few range_a range_b same = absurd (dash_is_no_id b.trace b.number (record { small_trace = omega (arith, few, range_b.trace); small_number = omega (arith, range_b.most); spelled = same }))
mate_once types (Some a) None few range_a range_b same = absurd (dash_is_no_id a.trace a.number (record { small_trace = omega (arith, few, range_a.trace); small_number = omega (arith, range_a.most); spelled = sym same }))
mate_once types (Some a) (Some b) few range_a range_b same = ap Some (id_once_in_text types a b few range_a range_b same)

-- fit events that are spelled alike are one
event_once : (types : TypeTable) (a b : Event) → IsTypeTable types → IsFit types a → IsFit types b → spelling types a ≡ spelling types b → a ≡ b
event_once types a b table fit_a fit_b same =
    let once = split_once (spelling types a) _ _ _ _ _ _ _ _ _ _ (spelling_is_split types (spelling types a) a table fit_a refl) (spelling_is_split types (spelling types a) b table fit_b same) in
    let ids = id_once_in_text types a.id b.id table.most_traces fit_a.id fit_b.id once.id_same in
    let type_nos = table.distinct a.type_no b.type_no (has_type types a.type_no fit_a.kind fit_a.is_of_kind) (has_type types b.type_no fit_b.kind fit_b.is_of_kind) once.name_same in
    let mates = mate_once types a.mate b.mate table.most_traces fit_a.mate_in_range fit_b.mate_in_range once.mate_same in
    let times = number_once (decimal a.time) a.time b.time (record { small = fit_a.time; spelled = refl }) (record { small = fit_b.time; spelled = once.time_same }) in
    ap (λ v. record a { id = v }) ids
    ∙ (ap (λ v. record { id = b.id; type_no = v; mate = a.mate; time = a.time; text = a.text }) type_nos
    ∙ (ap (λ v. record { id = b.id; type_no = b.type_no; mate = v; time = a.time; text = a.text }) mates
    ∙ (ap (λ v. record { id = b.id; type_no = b.type_no; mate = b.mate; time = v; text = a.text }) times
    ∙ ap (λ v. record { id = b.id; type_no = b.type_no; mate = b.mate; time = b.time; text = v }) once.text_same)))

-- no event is spelled as a full stop alone
no_stop : (types : TypeTable) (e : Event) → codes "." ≡ spelling types e → ⊥
no_stop types e same = has_none 32 (codes ".") (id_text e.id) _ (All-cons (λ b. b ≡ 32 → ⊥) 46 [] (λ is. cc) (All-nil (λ b. b ≡ 32 → ⊥))) same

-- good lines with the same bytes are one
pub line_once : (types : TypeTable) (a b : TextLine) → IsTypeTable types → IsFitLine types a → IsFitLine types b → line_bytes types a ≡ line_bytes types b → a ≡ b
line_once types stop stop table fit_a fit_b same = refl
line_once types stop (says e) table fit_a fit_b same = absurd (no_stop types e same)
line_once types (says e) stop table fit_a fit_b same = absurd (no_stop types e (sym same))
line_once types (says e) (says f) table fit_a fit_b same = ap says (event_once types e f table fit_a fit_b same)

-- a good line has no line feed
pub line_is_one : (types : TypeTable) (line : TextLine) → IsTypeTable types → IsFitLine types line → IsOneLine (line_bytes types line)
line_is_one types stop table fit has = elim (Contains-cons 46 [] 10 has) [ inl is ↦ cc | inr none ↦ absurd (Contains-nil 10 none) ]
line_is_one types (says e) table fit has = spelling_one_line types e table fit has

-- the bytes begin with a good line and its end
pub record BeginsWell (types : TypeTable) (bytes : List ℕ) : Type 0 where
  pub line : TextLine
  pub fit : IsFitLine types line
  pub rest : List ℕ
  pub is : bytes ≡ line_bytes types line ++ 10 ∷ rest

-- lines before others
pub text_of_first : (types : TypeTable) (line : TextLine) (lines : List TextLine) (tail : List ℕ) → text_of_lines types (line ∷ lines) ++ tail ≡ line_bytes types line ++ 10 ∷ (text_of_lines types lines ++ tail)
text_of_first types line lines tail =
    append_assoc (line_bytes types line ++ 10 ∷ []) (text_of_lines types lines) tail ∙ append_assoc (line_bytes types line) (10 ∷ []) (text_of_lines types lines ++ tail)

-- a text is good lines and a tail that doesn't begin with one, in one way
pub lines_once : (types : TypeTable) → IsTypeTable types → (lines others : List TextLine) (tail rest : List ℕ) → AllByRecursion (IsFitLine types) lines → AllByRecursion (IsFitLine types) others
    → text_of_lines types lines ++ tail ≡ text_of_lines types others ++ rest → (BeginsWell types tail → ⊥) → (BeginsWell types rest → ⊥) → (lines ≡ others) × (tail ≡ rest)
lines_once types table [] [] tail rest fit fits same ends other_ends = (refl, same)
lines_once types table [] (b ∷ others) tail rest fit fits same ends other_ends =
    absurd (ends (record { line = b; fit = fits.0; rest = text_of_lines types others ++ rest; is = same ∙ text_of_first types b others rest }))
lines_once types table (a ∷ lines) [] tail rest fit fits same ends other_ends =
    absurd (other_ends (record { line = a; fit = fit.0; rest = text_of_lines types lines ++ tail; is = sym same ∙ text_of_first types a lines tail }))
lines_once types table (a ∷ lines) (b ∷ others) tail rest fit fits same ends other_ends =
    let bytes = text_of_lines types (a ∷ lines) ++ tail in
    let one : SplitsOnce 10 bytes (line_bytes types a) (text_of_lines types lines ++ tail) = record { whole = text_of_first types a lines tail; first = none_equal 10 (line_bytes types a) (line_is_one types a table fit.0) } in
    let other : SplitsOnce 10 bytes (line_bytes types b) (text_of_lines types others ++ rest) = record { whole = same ∙ text_of_first types b others rest; first = none_equal 10 (line_bytes types b) (line_is_one types b table fits.0) } in
    let cuts = split_in_one_way 10 bytes (line_bytes types a) (text_of_lines types lines ++ tail) (line_bytes types b) (text_of_lines types others ++ rest) one other in
    let first = line_once types a b table fit.0 fits.0 cuts.0 in
    let more = lines_once types table lines others tail rest fit.1 fits.1 cuts.1 ends other_ends in
    (ap (λ l. l ∷ lines) first ∙ ap (λ ls. b ∷ ls) more.0, more.1)

-- the fields of a fit event are short
id_short : (types : TypeTable) (id : EventId) → types.traces ≤ 256 → IsInRange types id → length (id_text id) ≤ 11
id_short types id few range =
    let trace = length-decimal-le 3 id.trace (omega arith) (omega (arith, few, range.trace)) (omega (arith, few, range.trace)) in
    let number = length-decimal-le 7 id.number (omega arith) (omega (arith, range.most)) (omega (arith, range.most)) in
    let size = length-append (decimal id.trace) (46 ∷ decimal id.number) in
    omega (arith, trace, number, size)

mate_short : (types : TypeTable) (mate : Option EventId) → types.traces ≤ 256 → IfSome mate (IsInRange types) → length (mate_text mate) ≤ 11
mate_short types None few range = omega arith
mate_short types (Some id) few range = id_short types id few range

name_short : (bytes : List ℕ) → IsName bytes → length bytes ≤ 32
name_short [] name = omega arith
name_short (c ∷ cs) name =
    let rest = (and_parts (is_letter c) (nat_le (length cs) 31 && list_all is_name_byte cs) name).1 in
    let short = leb-true (length cs) 31 (and_parts (nat_le (length cs) 31) (list_all is_name_byte cs) rest).0 in
    omega (arith, short)

text_short : (text : List ℕ) → length text ≤ 200 → length (text_part text) ≤ 201
text_short [] few = omega arith
text_short (c ∷ cs) few = omega (arith, few)

-- a good line isn't too long
line_is_short : (types : TypeTable) (line : TextLine) → IsTypeTable types → IsFitLine types line → length (line_bytes types line) ≤ MOST_LINE
line_is_short types stop table fit = omega arith
line_is_short types (says e) table fit =
    let id = id_short types e.id table.most_traces fit.id in
    let name = name_short (name_of types e.type_no) (table.names e.type_no (has_type types e.type_no fit.kind fit.is_of_kind)) in
    let mate = mate_short types e.mate table.most_traces fit.mate_in_range in
    let time = length-decimal-le 18 e.time (omega arith) fit.time (below_two_to_64 e.time fit.time) in
    let text = text_short e.text fit.text_length in
    let last = length-append (decimal e.time) (text_part e.text) in
    let third = length-append (mate_text e.mate) (32 ∷ (decimal e.time ++ text_part e.text)) in
    let second = length-append (name_of types e.type_no) (32 ∷ (mate_text e.mate ++ 32 ∷ (decimal e.time ++ text_part e.text))) in
    let first = length-append (id_text e.id) (32 ∷ (name_of types e.type_no ++ 32 ∷ (mate_text e.mate ++ 32 ∷ (decimal e.time ++ text_part e.text)))) in
    omega (arith, id, name, mate, time, text, last, third, second, first)

-- a tail with a cause doesn't begin with a good line
pub cause_ends : (types : TypeTable) (size : ℕ) (tail : List ℕ) (cause : LineCause) → IsTypeTable types → IsTailCause types size tail cause → BeginsWell types tail → ⊥
cause_ends types size tail cause table wrong well = elim wrong [
  | inr still ↦ still.0 (subst (λ bytes. Contains bytes 10) (sym well.is) (Contains-append_right (line_bytes types well.line) (10 ∷ well.rest) 10 (Contains-here 10 well.rest)))
  | inl ended ↦
      let one : SplitsOnce 10 tail ended.0 ended.1 = record { whole = ended.2; first = none_equal 10 ended.0 ended.3 } in
      let other : SplitsOnce 10 tail (line_bytes types well.line) well.rest = record { whole = well.is; first = none_equal 10 (line_bytes types well.line) (line_is_one types well.line table well.fit) } in
      let same = (split_in_one_way 10 tail ended.0 ended.1 (line_bytes types well.line) well.rest one other).0 in
      elim ended.4 [
        | inl long ↦ (let size_is = ap length same in let short = line_is_short types well.line table well.fit in let over = long.0 in omega (arith, size_is, short, over))
        | inr bad ↦ good_has_no_cause well.line well.fit same bad.1 bad.2
      ]
]
  where
    good_has_no_cause : (line : TextLine) → IsFitLine types line → {bytes : List ℕ} → bytes ≡ line_bytes types line → bytes ≢ codes "." → IsCause types bytes cause → ⊥
    good_has_no_cause stop fit is other bad = other is
    good_has_no_cause (says e) fit {bytes} is other bad = spelled_has_no_cause types bytes e cause table fit is bad
