use Rattle.std.proofs.Common.{arith}
use Rattle.answer_text.specs.Texts.{text_of_count}
use Rattle.poet_io.proofs.CallerLemmas.{ends_cut}
use Rattle.answer_text.proofs.Lists.{all_written, each_cut, each_written, none_written}
use Rattle.answer_text.proofs.cut.put_counts.Goals as goal

pub loop-count-init : goal.loop-count-init
loop-count-init g c = none_written (g.K.Sink.state c.args.out.now)

pub loop-count-preserved : goal.loop-count-preserved
loop-count-preserved g c =
    each_written text_of_count c.args.counts.now c.loop-count.count-index 0 (omega arith) c.loop-count.invariant c.in_ok-put_number_after.ensures

pub returns-in_err-put_number_after : goal.returns-in_err-put_number_after
returns-in_err-put_number_after g c =
    ends_cut c.from_residual.result _ c.from_residual.ensures.1
    (each_cut text_of_count c.args.counts.now c.loop-count.count-index 0 (omega arith) c.loop-count.invariant c.in_err-put_number_after.ensures)

pub returns : goal.returns
returns g c = all_written text_of_count c.args.counts.now c.loop-count.count-index (omega arith) c.loop-count.invariant
