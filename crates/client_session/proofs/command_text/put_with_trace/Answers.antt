use Rattle.std.specs.Prelude.{codes, decimal}
use Rattle.poet_io.proofs.CallerLemmas.{cut_after, cut_more, ends_cut, writes_after, written_both}
use Rattle.client_session.proofs.command_text.put_with_trace.Goals as goal

pub returns-in_err-put_with_id : goal.returns-in_err-put_with_id
returns-in_err-put_with_id g c =
    ends_cut c.from_residual.result _ c.from_residual.ensures.1 (cut_more (decimal c.args.trace) (cut_more (codes " ") c.in_err-put_with_id.ensures))

pub returns-in_err-put : goal.returns-in_err-put
returns-in_err-put g c =
    ends_cut c.from_residual-in_err-put.result _ c.from_residual-in_err-put.ensures.1
    (cut_more (decimal c.args.trace) (cut_after c.in_ok-put_with_id.ensures c.in_err-put.ensures))

pub returns : goal.returns
returns g c =
    writes_after (g.K.Sink.state c.put_number.new.out) (decimal c.args.trace) c.put_number.result
    (written_both c.in_ok-put_with_id.ensures c.in_ok-put.ensures) c.put_number.ensures
