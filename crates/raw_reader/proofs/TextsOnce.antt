-- A whole text has its batches and its first fault in one way, and the batches that a prefix of it closes come first.
use Rattle.std.proofs.Common.{◌≡◌, ◌≤◌, ◌+◌, ◌-◌, ◌⊎◌, ℕ, inl, inr, Bool, true, false, cond, List, [], ◌∷◌, ◌++◌, length, take, refl, sym, ◌∙◌, ap, subst, arith, append_assoc, append-nil, length-append}
use Rattle.std.specs.Prelude.{Contains, ◌==◌}
use Rattle.std.specs.List.{AllByRecursion}
use Rattle.std.proofs.Math.Seq.{take-append-add}
use Rattle.std.proofs.lemmas.List.{take_all}
use Rattle.std.proofs.lemmas.List.Elements.{Contains-append_right}
use Rattle.causal_base.specs.declared.event.Event.{Event}
use Rattle.causal_base.specs.Fields.{SplitsOnce}
use Rattle.causal_base.specs.Types.{TypeTable}
use Rattle.causal_base.specs.TypeTables.{IsTypeTable}
use Rattle.causal_base.proofs.CallerLemmas.{split_in_one_way, Contains-here, Contains-nil}
use Rattle.raw_reader.specs.declared.cause.LineError.{LineError}
use Rattle.raw_reader.specs.EventParts.{IsOneLine}
use Rattle.raw_reader.specs.declared.limits.TheConstants.{MOST_IN_BATCH, MOST_INPUT}
use Rattle.raw_reader.specs.Texts.{TextLine, stop, says, line_bytes, IsFitLine, text_of_lines, Batches, piece_of, closed_off, batches_with, batches_from, batches_of, IsKnownAfter, IsUnendedAfter, IsOpenText, BeginsWithBatches, IsGoodText, HasFault}
use Rattle.raw_reader.proofs.FaultsOnce.{fault_once, no_fault_known}
use Rattle.raw_reader.proofs.LinesOnce.{BeginsWell, text_of_first, line_is_one, line_once, lines_once, cause_ends}
use Rattle.raw_reader.proofs.Spelled.{none_equal}

-- bytes without a line feed don't begin with a good line and its end
one_line_ends : (types : TypeTable) (tail : List ℕ) → IsOneLine tail → BeginsWell types tail → ⊥
one_line_ends types tail one_line well =
    one_line (subst (λ bytes. Contains bytes 10) (sym well.is) (Contains-append_right (line_bytes types well.line) (10 ∷ well.rest) 10 (Contains-here 10 well.rest)))

nil_ends : (types : TypeTable) → BeginsWell types [] → ⊥
nil_ends types well = let size = ap length well.is ∙ length-append (line_bytes types well.line) (10 ∷ well.rest) in omega (arith, size)

-- what stands within the limit of a text is these good lines, and a tail that doesn't begin with one
record IsLinesAndTail (types : TypeTable) (bytes : List ℕ) (lines : List TextLine) (tail : List ℕ) : Type 0 where
  fit : AllByRecursion (IsFitLine types) lines
  within : take MOST_INPUT bytes ≡ text_of_lines types lines ++ tail
  ends : BeginsWell types tail → ⊥

module _ (types : TypeTable) (table : IsTypeTable types) (bytes : List ℕ) where
  of_good : (batches : List (List Event)) (good : IsGoodText types bytes batches) → IsLinesAndTail types bytes good.lines []
  of_good batches good = record {
    fit = good.fit;
    within = take_all MOST_INPUT bytes good.within ∙ (good.whole ∙ sym (append-nil (text_of_lines types good.lines)));
    ends = nil_ends types;
  }

  of_known : (lines : List TextLine) (error : LineError) (known : IsKnownAfter types bytes lines error) → IsLinesAndTail types bytes lines known.tail
  of_known lines error known = record { fit = known.fit; within = known.within; ends = cause_ends types (length bytes) known.tail error.cause table known.cause }

  of_unended : (lines : List TextLine) (error : LineError) (end : IsUnendedAfter types bytes lines error) → IsLinesAndTail types bytes lines end.tail
  of_unended lines error end = record { fit = end.fit; within = take_all MOST_INPUT bytes end.within ∙ end.whole; ends = one_line_ends types end.tail end.one_line }

  of_open : (batches : List (List Event)) (text : IsOpenText types bytes batches) → IsLinesAndTail types bytes text.lines text.tail
  of_open batches text = record { fit = text.fit; within = take_all MOST_INPUT bytes text.within ∙ text.whole; ends = one_line_ends types text.tail text.one_line }

  once : (lines others : List TextLine) (tail rest : List ℕ) → IsLinesAndTail types bytes lines tail → IsLinesAndTail types bytes others rest → (lines ≡ others) × (tail ≡ rest)
  once lines others tail rest one two = lines_once types table lines others tail rest one.fit two.fit (sym one.within ∙ two.within) one.ends two.ends

  -- a text that ends within a line has no fault that is known
  not_known : (lines others : List TextLine) (error other : LineError) → IsUnendedAfter types bytes lines error → IsKnownAfter types bytes others other → ⊥
  not_known lines others error other end known =
      no_fault_known types table lines end.fit end.tail end.one_line end.short (subst (λ b. length b ≤ MOST_INPUT) end.whole end.within) others other
      (subst (λ b. IsKnownAfter types b others other) end.whole known)

  unended_once : (lines others : List TextLine) (error other : LineError) → IsUnendedAfter types bytes lines error → IsUnendedAfter types bytes others other → (lines ≡ others) × (error ≡ other)
  unended_once lines others error other one two =
      let same = once lines others one.tail two.tail (of_unended lines error one) (of_unended others other two) in
      let line_nos : error.line ≡ other.line = one.line_is ∙ (ap (λ ls. length ls + 1) same.0 ∙ sym two.line_is) in
      let causes : error.cause ≡ other.cause = one.cause ∙ sym two.cause in
      (same.0, ap (λ n. record { line = n; cause = error.cause }) line_nos ∙ ap (λ c. record { line = other.line; cause = c }) causes)

  first_once : (lines others : List TextLine) (error other : LineError) → IsKnownAfter types bytes lines error ⊎ IsUnendedAfter types bytes lines error → IsKnownAfter types bytes others other ⊎ IsUnendedAfter types bytes others other → (lines ≡ others) × (error ≡ other)
  first_once lines others error other one two = elim one [
    | inl known ↦ elim two [
      | inl also ↦ fault_once types table bytes lines others error other known also
      | inr end ↦ absurd (not_known others lines other error end known)
    ]
    | inr end ↦ elim two [
      | inl known ↦ absurd (not_known lines others error other end known)
      | inr also ↦ unended_once lines others error other end also
    ]
  ]

  pub good_once : (batches others : List (List Event)) → IsGoodText types bytes batches → IsGoodText types bytes others → batches ≡ others
  good_once batches others one two =
      let same = once one.lines two.lines [] [] (of_good batches one) (of_good others two) in
      sym one.closed ∙ (ap (λ lines. (closed_off (batches_of lines)).closed) same.0 ∙ two.closed)

  pub open_once : (batches others : List (List Event)) → IsOpenText types bytes batches → IsOpenText types bytes others → batches ≡ others
  open_once batches others one two =
      let same = once one.lines two.lines one.tail two.tail (of_open batches one) (of_open others two) in
      sym one.closed ∙ (ap (λ lines. (batches_of lines).closed) same.0 ∙ two.closed)

  -- no fault is known of an open text
  pub open_not_known : (batches : List (List Event)) → IsOpenText types bytes batches → (lines : List TextLine) (error : LineError) → IsKnownAfter types bytes lines error → ⊥
  open_not_known batches text lines error known =
      no_fault_known types table text.lines text.fit text.tail text.one_line text.short (subst (λ b. length b ≤ MOST_INPUT) text.whole text.within) lines error
      (subst (λ b. IsKnownAfter types b lines error) text.whole known)

  pub faulty_once : (batches others : List (List Event)) (error other : LineError) → HasFault types bytes batches error → HasFault types bytes others other → (batches ≡ others) × (error ≡ other)
  faulty_once batches others error other one two =
      let same = first_once one.lines two.lines error other one.fault two.fault in
      (sym one.closed ∙ (ap (λ lines. (batches_of lines).closed) same.0 ∙ two.closed), same.1)

  pub not_both : (batches others : List (List Event)) (error : LineError) → IsGoodText types bytes batches → HasFault types bytes others error → ⊥
  not_both batches others error good faulty = elim faulty.fault [
    | inl known ↦
        no_fault_known types table good.lines good.fit [] (λ has. Contains-nil 10 has) (omega arith)
        (subst (λ b. length b ≤ MOST_INPUT) (whole_is) good.within) faulty.lines error (subst (λ b. IsKnownAfter types b faulty.lines error) whole_is known)
    | inr end ↦ end.some (sym (once good.lines faulty.lines [] end.tail (of_good batches good) (of_unended faulty.lines error end)).1)
  ]
    where
      whole_is : bytes ≡ text_of_lines types good.lines ++ []
      whole_is = good.whole ∙ sym (append-nil (text_of_lines types good.lines))

-- good lines that a text begins with are the first of its lines
lines_prefix : (types : TypeTable) → IsTypeTable types → (lines others : List TextLine) (rest tail : List ℕ) → AllByRecursion (IsFitLine types) lines → AllByRecursion (IsFitLine types) others
    → text_of_lines types lines ++ rest ≡ text_of_lines types others ++ tail → (BeginsWell types tail → ⊥) → (more : List TextLine) × (others ≡ lines ++ more)
lines_prefix types table [] others rest tail fit fits same ends = (others, refl)
lines_prefix types table (a ∷ lines) [] rest tail fit fits same ends =
    absurd (ends (record { line = a; fit = fit.0; rest = text_of_lines types lines ++ rest; is = sym same ∙ text_of_first types a lines rest }))
lines_prefix types table (a ∷ lines) (b ∷ others) rest tail fit fits same ends =
    let bytes = text_of_lines types (a ∷ lines) ++ rest in
    let one : SplitsOnce 10 bytes (line_bytes types a) (text_of_lines types lines ++ rest) = record { whole = text_of_first types a lines rest; first = none_equal 10 (line_bytes types a) (line_is_one types a table fit.0) } in
    let other : SplitsOnce 10 bytes (line_bytes types b) (text_of_lines types others ++ tail) = record { whole = same ∙ text_of_first types b others tail; first = none_equal 10 (line_bytes types b) (line_is_one types b table fits.0) } in
    let cuts = split_in_one_way 10 bytes (line_bytes types a) (text_of_lines types lines ++ rest) (line_bytes types b) (text_of_lines types others ++ tail) one other in
    let first = line_once types a b table fit.0 fits.0 cuts.0 in
    let more = lines_prefix types table lines others rest tail fit.1 fits.1 cuts.1 ends in
    (more.0, ap (λ l. l ∷ others) (sym first) ∙ ap (λ ls. a ∷ ls) more.1)

-- batches that are closed come before those that further lines close
abbrev GoesOn : List (List Event) → List (List Event) → Type 0
GoesOn batches more = (rest : List (List Event)) × (more ≡ batches ++ rest)

goes_on_twice : (a b c : List (List Event)) → GoesOn a b → GoesOn b c → GoesOn a c
goes_on_twice a b c one two = (one.0 ++ two.0, two.1 ∙ (ap (λ batches. batches ++ two.0) one.1 ∙ append_assoc a one.0 two.0))

off_goes_on : (batches : Batches) → GoesOn batches.closed (closed_off batches).closed
off_goes_on batches = (piece_of batches.begun, refl)

by_length : (more : Batches) (full : Bool) → GoesOn more.closed (cond full (closed_off more) more).closed
by_length more true = off_goes_on more
by_length more false = ([], sym (append-nil more.closed))

with_goes_on : (batches : Batches) (line : TextLine) → GoesOn batches.closed (batches_with batches line).closed
with_goes_on batches stop = off_goes_on batches
with_goes_on batches (says e) = by_length (record { closed = batches.closed; begun = batches.begun ++ e ∷ [] }) (length (batches.begun ++ e ∷ []) == MOST_IN_BATCH)

from_goes_on : (start : Batches) (lines : List TextLine) → GoesOn start.closed (batches_from start lines).closed
from_goes_on start [] = ([], sym (append-nil start.closed))
from_goes_on start (line ∷ lines) =
    goes_on_twice start.closed (batches_with start line).closed (batches_from (batches_with start line) lines).closed (with_goes_on start line) (from_goes_on (batches_with start line) lines)

batches_append : (start : Batches) (lines more : List TextLine) → batches_from start (lines ++ more) ≡ batches_from (batches_from start lines) more
batches_append start [] more = refl
batches_append start (line ∷ lines) more = batches_append (batches_with start line) lines more

prefix_goes_on : (lines more : List TextLine) → GoesOn (batches_of lines).closed (batches_of (lines ++ more)).closed
prefix_goes_on lines more =
    let start : Batches = record { closed = []; begun = [] } in
    subst (λ (b : Batches). GoesOn (batches_of lines).closed b.closed) (sym (batches_append start lines more)) (from_goes_on (batches_of lines) more)

module _ (types : TypeTable) (table : IsTypeTable types) (bytes : List ℕ) (first : List (List Event)) (has : BeginsWithBatches types bytes first) where
  -- the prefix within the limit
  prefix : take MOST_INPUT bytes ≡ text_of_lines types has.lines ++ take (MOST_INPUT - length (text_of_lines types has.lines)) has.rest
  prefix =
      let text = text_of_lines types has.lines in
      let size : MOST_INPUT ≡ length text + (MOST_INPUT - length text) = (let within = has.within in omega (arith, within)) in
      ap (take MOST_INPUT) has.whole ∙ (ap (λ n. take n (text ++ has.rest)) size ∙ take-append-add text has.rest (MOST_INPUT - length text))

  comes_first : (lines : List TextLine) (tail : List ℕ) → IsLinesAndTail types bytes lines tail → GoesOn first (batches_of lines).closed
  comes_first lines tail whole =
      let more = lines_prefix types table has.lines lines (take (MOST_INPUT - length (text_of_lines types has.lines)) has.rest) tail has.fit whole.fit (sym prefix ∙ whole.within) whole.ends in
      subst (λ ls. GoesOn first (batches_of ls).closed) (sym more.1) (subst (λ c. GoesOn c (batches_of (has.lines ++ more.0)).closed) has.closed (prefix_goes_on has.lines more.0))

  pub first_of_good : (batches : List (List Event)) → IsGoodText types bytes batches → (rest : List (List Event)) × (batches ≡ first ++ rest)
  first_of_good batches good =
      subst (GoesOn first) good.closed (goes_on_twice first (batches_of good.lines).closed (closed_off (batches_of good.lines)).closed (comes_first good.lines [] (of_good types table bytes batches good)) (off_goes_on (batches_of good.lines)))

  pub first_of_faulty : (batches : List (List Event)) (error : LineError) → HasFault types bytes batches error → (rest : List (List Event)) × (batches ≡ first ++ rest)
  first_of_faulty batches error faulty = subst (GoesOn first) faulty.closed (elim faulty.fault [
    | inl known ↦ comes_first faulty.lines known.tail (of_known types table bytes faulty.lines error known)
    | inr end ↦ comes_first faulty.lines end.tail (of_unended types table bytes faulty.lines error end)
  ])
