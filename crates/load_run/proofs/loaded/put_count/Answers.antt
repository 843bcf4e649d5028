use Rattle.std.specs.Prelude.{decimal}
use Rattle.poet_io.proofs.CallerLemmas.{cut_more, ends_cut, writes_after}
use Rattle.load_run.proofs.loaded.put_count.Goals as goal

pub returns-in_err-put : goal.returns-in_err-put
returns-in_err-put g c =
    ends_cut c.from_residual.result _ c.from_residual.ensures.1 (cut_more (decimal c.args.number) c.in_err-put.ensures)

pub returns : goal.returns
returns g c =
    writes_after (g.K.Sink.state c.put_number.new.out) (decimal c.args.number) c.put_number.result c.in_ok-put.ensures c.put_number.ensures
