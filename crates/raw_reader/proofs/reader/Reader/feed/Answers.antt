use Rattle.std.proofs.Common.{◌≡◌, ◌++◌, ◌-◌, length, sym, ◌∙◌, ap, subst, arith, append_assoc, length-drop}
use Rattle.std.specs.Prelude.{take, drop}
use Rattle.std.proofs.Math.Seq.{take-add}
use Rattle.std.proofs.lemmas.List.{take_all}
use Rattle.raw_reader.specs.ReaderState.{ReaderState, HasRead}
use Rattle.raw_reader.proofs.Waiting.{keeps_through}
use Rattle.raw_reader.proofs.reader.Reader.feed.Goals as goal

pub loop-start-preserved : goal.loop-start-preserved
loop-start-preserved c =
    let before = c.loop-start in
    let after = c.take_some-start in
    let piece = c.args.piece.now in
    let start = before.start in
    let size = length-drop start piece in
    let rest : take (length piece - start) (drop start piece) ≡ drop start piece = take_all (length piece - start) (drop start piece) (omega (arith, size)) in
    record {
      within = (let within = ap length rest in let took = after.ensures.within in let below = before.invariant.within in omega (arith, size, within, took, below));
      types = after.ensures.types ∙ before.invariant.types;
      again = λ error some.
          let same = before.invariant.again error some in
          after.ensures.again error (ap (λ (r : ReaderState). r.refusal) same ∙ some) ∙ same;
      kept = keeps_through _ _ _ before.invariant.kept after.ensures.kept;
      stands = λ fed taken stands.
          let front = take start piece in
          let next = take after.result (take (length piece - start) (drop start piece)) in
          subst (λ bytes. HasRead after.new.self bytes taken) (append_assoc fed front next ∙ ap (λ bytes. fed ++ bytes) (ap (λ bytes. front ++ take after.result bytes) rest ∙ sym (take-add start after.result piece)))
          (after.ensures.stands (fed ++ front) taken (before.invariant.stands fed taken stands));
    }
