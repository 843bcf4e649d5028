use Rattle.std.proofs.Common.{◌++◌, decimal, subst}
use Rattle.std.specs.Prelude.{codes}
use Rattle.client_session.specs.CauseNames.{cause_name}
use Rattle.poet_io.specs.Writes.{Writes}
use Rattle.poet_io.proofs.CallerLemmas.{cut_after, cut_more, ends_cut, writes_after}
use Rattle.run_files.proofs.fault.put_script_error.Goals as goal

pub returns-in_err-put_asker : goal.returns-in_err-put_asker
returns-in_err-put_asker g c =
    let error = c.args.error.now in
    ends_cut c.from_residual.result _ c.from_residual.ensures.1 (cut_more (decimal error.line ++ (codes " " ++ cause_name error.cause ++ codes "\n")) c.in_err-put_asker.ensures)

pub returns-in_err-put_number : goal.returns-in_err-put_number
returns-in_err-put_number g c =
    let error = c.args.error.now in
    ends_cut c.from_residual-in_err-put_number.result _ c.from_residual-in_err-put_number.ensures.1
    (cut_after c.in_ok-put_asker.ensures (cut_more (codes " " ++ cause_name error.cause ++ codes "\n") c.in_err-put_number.ensures))

pub returns : goal.returns
returns g c =
    let state = g.K.Sink.state in
    let error = c.args.error.now in
    let after = state c.put_named.new.out in
    let named = codes " " ++ cause_name error.cause ++ codes "\n" in
    writes_after after (decimal error.line ++ named) c.put_named.result c.in_ok-put_asker.ensures
    (writes_after after named c.put_named.result c.in_ok-put_number.ensures
    (subst (λ name. Writes (state c.put_number.new.out) after (codes " " ++ name ++ codes "\n") c.put_named.result) c.name.ensures c.put_named.ensures))
