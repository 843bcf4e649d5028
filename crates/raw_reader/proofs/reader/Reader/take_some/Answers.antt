use Rattle.std.proofs.Common.{◌≡◌, ◌++◌, ◌+◌, ◌∷◌, [], length, sym, ◌∙◌, ap, subst, append_assoc, length-append}
use Rattle.std.specs.Prelude.{take}
use Rattle.std.proofs.Math.Seq.{take-append_seam}
use Rattle.raw_reader.specs.ReaderState.{HasRead}
use Rattle.raw_reader.proofs.reader.Reader.take_some.Goals as goal

pub returns-in-Some-clause-stands : goal.returns-in-Some-clause-stands
returns-in-Some-clause-stands c fed taken stands =
    let line = c.in-Some.line.now in
    let ended = c.in-Some.ensures.ended in
    let whole : c.args.bytes.now ≡ (line ++ 10 ∷ []) ++ ended.0 = ended.1 ∙ sym (append_assoc line (10 ∷ []) ended.0) in
    let front : take (length line + 1) c.args.bytes.now ≡ line ++ 10 ∷ [] =
    ap (λ bytes. take (length line + 1) bytes) whole ∙ (ap (λ n. take n ((line ++ 10 ∷ []) ++ ended.0)) (sym (length-append line (10 ∷ []))) ∙ take-append_seam (line ++ 10 ∷ []) ended.0) in
    subst (λ bytes. HasRead c.take_line.new.self (fed ++ bytes) taken) (sym front) (c.take_line.ensures.stands fed taken stands)
