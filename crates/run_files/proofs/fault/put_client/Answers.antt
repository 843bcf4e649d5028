use Rattle.std.proofs.Common.{◌++◌, decimal}
use Rattle.std.specs.Prelude.{codes}
use Rattle.poet_io.proofs.CallerLemmas.{cut_after, cut_more, ends_cut, writes_after}
use Rattle.run_files.proofs.fault.put_client.Goals as goal

pub returns-in_err-put : goal.returns-in_err-put
returns-in_err-put g c =
    ends_cut c.from_residual.result _ c.from_residual.ensures.1 (cut_more (decimal c.args.number ++ codes " ") c.in_err-put.ensures)

pub returns-in_err-put_number : goal.returns-in_err-put_number
returns-in_err-put_number g c =
    ends_cut c.from_residual-in_err-put_number.result _ c.from_residual-in_err-put_number.ensures.1
    (cut_after c.in_ok-put.ensures (cut_more (codes " ") c.in_err-put_number.ensures))

pub returns : goal.returns
returns g c =
    let after = g.K.Sink.state c.put-2.new.out in
    writes_after after (decimal c.args.number ++ codes " ") c.put-2.result c.in_ok-put.ensures
    (writes_after after (codes " ") c.put-2.result c.in_ok-put_number.ensures c.put-2.ensures)
