use Rattle.std.proofs.Common.{◌≡◌, ◌∙◌, get_or, ap, subst, arith}
use Rattle.answer_text.specs.Texts.{text_of_count}
use Rattle.poet_io.specs.Writes.{IsCutShort}
use Rattle.poet_io.proofs.CallerLemmas.{ends_cut}
use Rattle.run_text.proofs.Lists.{each_cut}
use Rattle.run_text.proofs.words.put_sizes.Goals as goal

pub returns-in_err-put_with_number : goal.returns-in_err-put_with_number
returns-in_err-put_with_number g c =
    let state = g.K.Sink.state in
    let sizes = c.args.sizes.now in
    let level = c.loop-level.level in
    let size : c.size.result ≡ get_or sizes level 0 = c.size.ensures.number ∙ ap (λ n. get_or sizes n 0) (omega arith) in
    ends_cut c.from_residual.result _ c.from_residual.ensures.1
    (each_cut text_of_count sizes level 0 (omega arith) c.loop-level.invariant
    (subst (λ n. IsCutShort (state c.loop-level.out) (state c.put_with_number.new.out) (text_of_count n)) size c.in_err-put_with_number.ensures))
