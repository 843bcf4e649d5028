use Rattle.std.proofs.Common.{◌++◌}
use Rattle.std.specs.Prelude.{codes, decimal}
use Rattle.poet_io.proofs.CallerLemmas.{cut_after, cut_more, ends_cut, writes_after, written_both}
use Rattle.answer_text.proofs.counted.put_counted.Goals as goal

pub returns-in_err-put_number_after : goal.returns-in_err-put_number_after
returns-in_err-put_number_after g c =
    ends_cut c.from_residual.result _ c.from_residual.ensures.1
    (cut_more (codes " held " ++ decimal c.args.held) (cut_more (codes " delivered " ++ decimal c.args.delivered) c.in_err-put_number_after.ensures))

pub returns-in_err-put_number_after-2 : goal.returns-in_err-put_number_after-2
returns-in_err-put_number_after-2 g c =
    ends_cut c.from_residual-in_err-put_number_after-2.result _ c.from_residual-in_err-put_number_after-2.ensures.1
    (cut_more (codes " held " ++ decimal c.args.held) (cut_after c.in_ok-put_number_after.ensures c.in_err-put_number_after-2.ensures))

pub returns : goal.returns
returns g c =
    writes_after (g.K.Sink.state c.put_number_after-3.new.out) (codes " held " ++ decimal c.args.held) c.put_number_after-3.result
    (written_both c.in_ok-put_number_after.ensures c.in_ok-put_number_after-2.ensures) c.put_number_after-3.ensures
