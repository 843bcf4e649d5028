use Rattle.std.proofs.Common.{◌∙◌, subst, arith}
use Rattle.poet_io.specs.Writes.{IsWritten, IsCutShort}
use Rattle.poet_io.proofs.CallerLemmas.{ends_cut}
use Rattle.answer_text.specs.Texts.{text_of_tuple}
use Rattle.answer_text.proofs.Lists.{all_written, each_cut, each_written, none_written}
use Rattle.answer_text.proofs.found.put_tuples.Goals as goal

pub loop-tuple-init : goal.loop-tuple-init
loop-tuple-init g c = none_written (g.K.Sink.state c.args.out.now)

pub loop-tuple-preserved : goal.loop-tuple-preserved
loop-tuple-preserved g c =
    let state = g.K.Sink.state in
    each_written text_of_tuple c.args.tuples.now c.loop-tuple.tuple-index c.tuple-item.result (omega arith) c.loop-tuple.invariant
    (subst (λ ids. IsWritten (state c.loop-tuple.out) (state c.put_tuple.new.out) (text_of_tuple ids)) (c.as_slice.ensures ∙ c.tuple-item.is) c.in_ok-put_tuple.ensures)

pub returns-in_err-put_tuple : goal.returns-in_err-put_tuple
returns-in_err-put_tuple g c =
    let state = g.K.Sink.state in
    ends_cut c.from_residual.result _ c.from_residual.ensures.1
    (each_cut text_of_tuple c.args.tuples.now c.loop-tuple.tuple-index c.tuple-item.result (omega arith) c.loop-tuple.invariant
    (subst (λ ids. IsCutShort (state c.loop-tuple.out) (state c.put_tuple.new.out) (text_of_tuple ids)) (c.as_slice.ensures ∙ c.tuple-item.is) c.in_err-put_tuple.ensures))

pub returns : goal.returns
returns g c = all_written text_of_tuple c.args.tuples.now c.loop-tuple.tuple-index (omega arith) c.loop-tuple.invariant
