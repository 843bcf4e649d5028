use Rattle.std.specs.Prelude.{◌++◌, codes, decimal}
use Rattle.poet_io.proofs.CallerLemmas.{cut_more, ends_cut, writes_after}
use Rattle.answer_text.proofs.id.put_id.Goals as goal

pub returns-in_err-put_number : goal.returns-in_err-put_number
returns-in_err-put_number g c =
    ends_cut c.from_residual.result _ c.from_residual.ensures.1 (cut_more (codes "." ++ decimal c.args.id.number) c.in_err-put_number.ensures)

pub returns : goal.returns
returns g c =
    writes_after (g.K.Sink.state c.put_number_after.new.out) (codes "." ++ decimal c.args.id.number) c.put_number_after.result c.in_ok-put_number.ensures c.put_number_after.ensures
