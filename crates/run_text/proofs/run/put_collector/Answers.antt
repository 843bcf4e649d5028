use Rattle.std.proofs.Common.{List, map, subst}
use Rattle.causal_base.specs.declared.event_id.EventId.{EventId}
use Rattle.text_buffer.proofs.CallerLemmas.{cut_behind_more, ends_cut_behind, gathers_after}
use Rattle.text_buffer.specs.Gathering.{Gathers}
use Rattle.run_text.specs.Lines.{ended_lines, text_of_clash}
use Rattle.run_text.proofs.run.put_collector.Goals as goal

pub returns-in_err-put : goal.returns-in_err-put
returns-in_err-put g c =
    ends_cut_behind c.put.new.self c.from_residual.result _ c.from_residual.ensures.1
    (cut_behind_more (ended_lines (map text_of_clash c.args.report.now.first)) c.in_err-put.ensures)

pub returns : goal.returns
returns g c =
    let state = g.K.Sink.state in
    let text = λ (ids : List EventId). ended_lines (map text_of_clash ids) in
    gathers_after (state c.put_clashes.new.out) c.put_clashes.new.buffer (text c.args.report.now.first) c.put_clashes.result c.in_ok-put.ensures
    (subst (λ (ids : List EventId). Gathers (state c.put.new.out) c.put.new.self (state c.put_clashes.new.out) c.put_clashes.new.buffer (text ids) c.put_clashes.result) c.as_slice.ensures c.put_clashes.ensures)
