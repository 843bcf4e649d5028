use Rattle.std.proofs.Common.{◌++◌}
use Rattle.std.specs.Prelude.{codes}
use Rattle.poet_io.proofs.CallerLemmas.{cut_after, cut_more, ends_cut, writes_after, written_both}
use Rattle.run_text.specs.Lines.{text_of_stop, with_number}
use Rattle.run_text.proofs.words.put_collector_head.Goals as goal

pub returns-in_err-put_with_number : goal.returns-in_err-put_with_number
returns-in_err-put_with_number g c =
    ends_cut c.from_residual.result _ c.from_residual.ensures.1
    (cut_more (codes " " ++ text_of_stop c.args.stop) (cut_more (with_number (codes " clashes ") c.args.clashes)
    (cut_more (with_number (codes " repeats ") c.args.repeats) (cut_more (with_number (codes " accepted ") c.args.accepted)
    c.in_err-put_with_number.ensures))))

pub returns-in_err-put_with_number-2 : goal.returns-in_err-put_with_number-2
returns-in_err-put_with_number-2 g c =
    ends_cut c.from_residual-in_err-put_with_number-2.result _ c.from_residual-in_err-put_with_number-2.ensures.1
    (cut_more (codes " " ++ text_of_stop c.args.stop) (cut_more (with_number (codes " clashes ") c.args.clashes)
    (cut_more (with_number (codes " repeats ") c.args.repeats)
    (cut_after c.in_ok-put_with_number.ensures c.in_err-put_with_number-2.ensures))))

pub returns-in_err-put_with_number-3 : goal.returns-in_err-put_with_number-3
returns-in_err-put_with_number-3 g c =
    ends_cut c.from_residual-in_err-put_with_number-3.result _ c.from_residual-in_err-put_with_number-3.ensures.1
    (cut_more (codes " " ++ text_of_stop c.args.stop) (cut_more (with_number (codes " clashes ") c.args.clashes)
    (cut_after (written_both c.in_ok-put_with_number.ensures c.in_ok-put_with_number-2.ensures) c.in_err-put_with_number-3.ensures)))

pub returns-in_err-put_with_number-4 : goal.returns-in_err-put_with_number-4
returns-in_err-put_with_number-4 g c =
    ends_cut c.from_residual-in_err-put_with_number-4.result _ c.from_residual-in_err-put_with_number-4.ensures.1
    (cut_more (codes " " ++ text_of_stop c.args.stop)
    (cut_after (written_both (written_both c.in_ok-put_with_number.ensures c.in_ok-put_with_number-2.ensures) c.in_ok-put_with_number-3.ensures)
    c.in_err-put_with_number-4.ensures))

pub returns-in_err-put : goal.returns-in_err-put
returns-in_err-put g c =
    ends_cut c.from_residual-in_err-put.result _ c.from_residual-in_err-put.ensures.1
    (cut_after (written_both (written_both (written_both c.in_ok-put_with_number.ensures c.in_ok-put_with_number-2.ensures) c.in_ok-put_with_number-3.ensures) c.in_ok-put_with_number-4.ensures)
    (cut_more (text_of_stop c.args.stop) c.in_err-put.ensures))

pub returns : goal.returns
returns g c =
    let after = g.K.Sink.state c.put_stop.new.out in
    writes_after after (codes " " ++ text_of_stop c.args.stop) c.put_stop.result
    (written_both (written_both (written_both c.in_ok-put_with_number.ensures c.in_ok-put_with_number-2.ensures) c.in_ok-put_with_number-3.ensures) c.in_ok-put_with_number-4.ensures)
    (writes_after after (text_of_stop c.args.stop) c.put_stop.result c.in_ok-put.ensures c.put_stop.ensures)
