use Rattle.std.proofs.Common.{arith}
use Rattle.answer_text.specs.Texts.{text_of_part}
use Rattle.poet_io.proofs.CallerLemmas.{ends_cut}
use Rattle.answer_text.proofs.Lists.{all_written, each_cut, each_written, none_written}
use Rattle.answer_text.proofs.stamp.put_parts.Goals as goal

pub loop-part-init : goal.loop-part-init
loop-part-init g c = none_written (g.K.Sink.state c.args.out.now)

pub loop-part-preserved : goal.loop-part-preserved
loop-part-preserved g c =
    each_written text_of_part c.args.parts.now c.loop-part.part-index (0, 0) (omega arith) c.loop-part.invariant c.in_ok-put_part.ensures

pub returns-in_err-put_part : goal.returns-in_err-put_part
returns-in_err-put_part g c =
    ends_cut c.from_residual.result _ c.from_residual.ensures.1
    (each_cut text_of_part c.args.parts.now c.loop-part.part-index (0, 0) (omega arith) c.loop-part.invariant c.in_err-put_part.ensures)

pub returns : goal.returns
returns g c = all_written text_of_part c.args.parts.now c.loop-part.part-index (omega arith) c.loop-part.invariant
