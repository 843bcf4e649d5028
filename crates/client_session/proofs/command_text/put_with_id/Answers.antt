use Rattle.std.specs.Prelude.{codes}
use Rattle.causal_base.specs.Spelling.{id_text}
use Rattle.poet_io.proofs.CallerLemmas.{cut_after, cut_more, ends_cut, writes_after, written_both}
use Rattle.client_session.proofs.command_text.put_with_id.Goals as goal

pub returns-in_err-put : goal.returns-in_err-put
returns-in_err-put g c =
    ends_cut c.from_residual.result _ c.from_residual.ensures.1 (cut_more (id_text c.args.id) (cut_more (codes " ") c.in_err-put.ensures))

pub returns-in_err-put-2 : goal.returns-in_err-put-2
returns-in_err-put-2 g c =
    ends_cut c.from_residual-in_err-put-2.result _ c.from_residual-in_err-put-2.ensures.1
    (cut_more (id_text c.args.id) (cut_after c.in_ok-put.ensures c.in_err-put-2.ensures))

pub returns : goal.returns
returns g c =
    writes_after (g.K.Sink.state c.put_id.new.out) (id_text c.args.id) c.put_id.result
    (written_both c.in_ok-put.ensures c.in_ok-put-2.ensures) c.put_id.ensures
