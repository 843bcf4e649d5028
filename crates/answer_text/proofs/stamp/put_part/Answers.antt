use Rattle.std.proofs.Common.{◌++◌}
use Rattle.std.specs.Prelude.{codes, decimal}
use Rattle.poet_io.proofs.CallerLemmas.{cut_more, ends_cut, writes_after}
use Rattle.answer_text.proofs.stamp.put_part.Goals as goal

pub returns-in_err-put_number_after : goal.returns-in_err-put_number_after
returns-in_err-put_number_after g c =
    ends_cut c.from_residual.result _ c.from_residual.ensures.1 (cut_more (codes "=" ++ decimal c.args.part.1) c.in_err-put_number_after.ensures)

pub returns : goal.returns
returns g c =
    writes_after (g.K.Sink.state c.put_number_after-2.new.out) (codes "=" ++ decimal c.args.part.1) c.put_number_after-2.result c.in_ok-put_number_after.ensures c.put_number_after-2.ensures
