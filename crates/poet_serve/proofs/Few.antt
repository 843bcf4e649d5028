-- A text has no more events than bytes.
use Rattle.std.proofs.Common.{◌≡◌, ◌+◌, ◌≤◌, ℕ, Bool, true, false, cond, List, [], ◌∷◌, ◌++◌, length, length-append, refl, sym, ◌∙◌, ap, subst, arith, inl, inr, append_assoc, append-nil}
use Rattle.std.specs.Prelude.{◌==◌}
use Rattle.causal_base.specs.declared.event.Event.{Event}
use Rattle.causal_base.specs.Types.{TypeTable}
use Rattle.raw_reader.specs.declared.limits.TheConstants.{MOST_INPUT, MOST_IN_BATCH}
use Rattle.raw_reader.specs.Texts.{TextLine, stop, says, line_bytes, text_of_lines, Batches, batches_of, batches_from, batches_with, closed_off, piece_of, events_of}
use Rattle.poet_serve.specs.Reading.{AreBatchesOf}

-- the events of batches and of others
pub events_append : (batches others : List (List Event)) → events_of (batches ++ others) ≡ events_of batches ++ events_of others
events_append [] others = refl
events_append (batch ∷ batches) others = ap (λ events. batch ++ events) (events_append batches others) ∙ sym (append_assoc batch (events_of batches) (events_of others))

-- how many events they have, those of the one that is begun too
abbrev total : Batches → ℕ
total batches = length (events_of batches.closed) + length batches.begun

piece_total : (events : List Event) → length (events_of (piece_of events)) ≡ length events
piece_total [] = refl
piece_total (e ∷ events) = ap length (append-nil (e ∷ events))

closed_total : (batches : Batches) → total (closed_off batches) ≡ total batches
closed_total batches =
    let both = ap length (events_append batches.closed (piece_of batches.begun)) ∙ length-append (events_of batches.closed) (events_of (piece_of batches.begun)) in
    let piece = piece_total batches.begun in
    omega (arith, both, piece)

by_total : (full : Bool) (more : Batches) → total (cond full (closed_off more) more) ≡ total more
by_total true more = closed_total more
by_total false more = refl

with_total : (batches : Batches) (line : TextLine) → total (batches_with batches line) ≤ total batches + 1
with_total batches stop = let same = closed_total batches in omega (arith, same)
with_total batches (says e) =
    let more : Batches = record { closed = batches.closed; begun = batches.begun ++ e ∷ [] } in
    let same = by_total (length more.begun == MOST_IN_BATCH) more in
    let long = length-append batches.begun (e ∷ []) in
    omega (arith, same, long)

from_total : (batches : Batches) (lines : List TextLine) → total (batches_from batches lines) ≤ total batches + length lines
from_total batches [] = omega arith
from_total batches (line ∷ lines) =
    let rest = from_total (batches_with batches line) lines in
    let first = with_total batches line in
    omega (arith, rest, first)

few_lines : (types : TypeTable) (lines : List TextLine) → length lines ≤ length (text_of_lines types lines)
few_lines types [] = omega arith
few_lines types (line ∷ lines) =
    let rest = few_lines types lines in
    let both = length-append (line_bytes types line ++ 10 ∷ []) (text_of_lines types lines) in
    let one = length-append (line_bytes types line) (10 ∷ []) in
    omega (arith, rest, both, one)

module _ (types : TypeTable) (lines : List TextLine) (within : length (text_of_lines types lines) ≤ MOST_INPUT) where
  few : length (events_of (batches_of lines).closed) ≤ MOST_INPUT
  few =
      let all = from_total (record { closed = []; begun = [] }) lines in
      let some = few_lines types lines in
      omega (arith, all, some, within)

  few_off : length (events_of (closed_off (batches_of lines)).closed) ≤ MOST_INPUT
  few_off =
      let all = from_total (record { closed = []; begun = [] }) lines in
      let same = closed_total (batches_of lines) in
      let some = few_lines types lines in
      omega (arith, all, same, some, within)

pub few_events : (types : TypeTable) (bytes : List ℕ) (batches : List (List Event)) → AreBatchesOf types bytes batches → length (events_of batches) ≤ MOST_INPUT
few_events types bytes batches are = elim are [
  | inl begins ↦ subst (λ (bs : List (List Event)). length (events_of bs) ≤ MOST_INPUT) begins.closed (few types begins.lines begins.within)
  | inr good ↦ subst (λ (bs : List (List Event)). length (events_of bs) ≤ MOST_INPUT) good.closed (few_off types good.lines (subst (λ (l : List ℕ). length l ≤ MOST_INPUT) good.whole good.within))
]
