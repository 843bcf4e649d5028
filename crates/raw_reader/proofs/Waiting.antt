-- What waited still waits.
use Rattle.std.proofs.Common.{◌≡◌, Bool, true, false, cond, [], ◌∷◌, ◌++◌, length, sym, ◌∙◌, ap, append_assoc, append-nil}
use Rattle.std.specs.Prelude.{◌==◌}
use Rattle.raw_reader.specs.declared.limits.TheConstants.{MOST_IN_BATCH}
use Rattle.raw_reader.specs.ReaderState.{ReaderState, KeepsWaiting}
use Rattle.raw_reader.specs.Texts.{TextLine, stop, says, Batches, piece_of, closed_off, batches_with}

-- where nothing came
pub keeps_same : (before after : ReaderState) → after.waiting ≡ before.waiting → KeepsWaiting before after
keeps_same before after same = record { more = []; behind = same ∙ sym (append-nil before.waiting) }

-- over two calls
pub keeps_through : (a b c : ReaderState) → KeepsWaiting a b → KeepsWaiting b c → KeepsWaiting a c
keeps_through a b c first second = record {
  more = first.more ++ second.more;
  behind = second.behind ∙ (ap (λ w. w ++ second.more) first.behind ∙ append_assoc a.waiting first.more second.more);
}

-- as one more batch at most is closed
pub keeps_more : (before after : ReaderState) (batches : Batches) (line : TextLine) → batches.closed ≡ before.waiting → after.waiting ≡ (batches_with batches line).closed → KeepsWaiting before after
keeps_more before after batches stop was is = record { more = piece_of batches.begun; behind = is ∙ ap (λ w. w ++ piece_of batches.begun) was }
keeps_more before after batches (says e) was is =
    let more : Batches = record { closed = batches.closed; begun = batches.begun ++ e ∷ [] } in
    by_length (length more.begun == MOST_IN_BATCH) is
  where
    by_length : (full : Bool) → after.waiting ≡ (cond full (closed_off (record { closed = batches.closed; begun = batches.begun ++ e ∷ [] })) (record { closed = batches.closed; begun = batches.begun ++ e ∷ [] })).closed → KeepsWaiting before after
    by_length true is = record { more = piece_of (batches.begun ++ e ∷ []); behind = is ∙ ap (λ w. w ++ piece_of (batches.begun ++ e ∷ [])) was }
    by_length false is = keeps_same before after (is ∙ was)
