use Rattle.std.proofs.Common.{subst}
use Rattle.std.specs.Prelude.{codes, Bool}
use Rattle.answer_text.specs.Texts.{text_of_answer}
use Rattle.causal_base.specs.declared.answer.Answer.{Answer}
use Rattle.poet_io.specs.Writes.{IsWritten}
use Rattle.poet_io.proofs.CallerLemmas.{writes_after}
use Rattle.poet_top.proofs.answer.AnswerLinePrinted.put.Goals as goal

pub returns : goal.returns
returns g c =
    let state = g.K.Sink.state in
    writes_after (state c.put.new.out) (codes "\n") c.put.result
    (subst (λ (answer : Answer Bool). IsWritten (state c.args.out.now) (state c.put_answer.new.out) (text_of_answer answer)) c.copy_of.ensures c.in_ok-put_answer.ensures) c.put.ensures
