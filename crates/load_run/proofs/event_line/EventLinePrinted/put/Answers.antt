use Rattle.std.proofs.Common.{[], ◌∷◌}
use Rattle.poet_io.proofs.CallerLemmas.{cut_more, ends_cut, writes_after}
use Rattle.load_run.proofs.event_line.EventLinePrinted.put.Goals as goal

pub returns-in_err-put_event : goal.returns-in_err-put_event
returns-in_err-put_event g c =
    ends_cut c.from_residual.result _ c.from_residual.ensures.1 (cut_more (10 ∷ []) c.in_err-put_event.ensures)

pub returns : goal.returns
returns g c =
    writes_after (g.K.Sink.state c.put.new.out) (10 ∷ []) c.put.result c.in_ok-put_event.ensures c.put.ensures
