use Rattle.std.proofs.Common.{List, ◌++◌, length, map, subst}
use Rattle.std.specs.Prelude.{codes}
use Rattle.poet_serve.specs.declared.report.Line.{Line}
use Rattle.text_buffer.proofs.CallerLemmas.{Comes, IsCutBehind, cut_behind_more, ends_cut_behind, gathers_after}
use Rattle.text_buffer.specs.Gathering.{Gathers}
use Rattle.run_text.specs.Lines.{ended_lines, text_of_client, text_of_line}
use Rattle.run_text.proofs.run.put_client.Goals as goal

pub returns-in_err-put : goal.returns-in_err-put
returns-in_err-put g c =
    let state = g.K.Sink.state in
    ends_cut_behind c.put.new.self c.from_residual.result _ c.from_residual.ensures.1
    (cut_behind_more (ended_lines (map (text_of_line c.args.types.now c.args.script.now) c.args.report.now.lines))
    (subst (λ (lines : List Line). IsCutBehind (state c.args.out.now) c.args.buffer.now (state c.put.new.out) (text_of_client c.args.client (length lines) ++ codes "\n")) c.as_slice-lines.ensures c.in_err-put.ensures))

pub returns : goal.returns
returns g c =
    let state = g.K.Sink.state in
    let text = λ (lines : List Line). ended_lines (map (text_of_line c.args.types.now c.args.script.now) lines) in
    gathers_after (state c.put_lines.new.out) c.put_lines.new.buffer (text c.args.report.now.lines) c.put_lines.result
    (subst (λ (lines : List Line). Comes (state c.args.out.now) c.args.buffer.now (state c.put.new.out) c.put.new.self (text_of_client c.args.client (length lines) ++ codes "\n")) c.as_slice-lines.ensures c.in_ok-put.ensures)
    (subst (λ (lines : List Line). Gathers (state c.put.new.out) c.put.new.self (state c.put_lines.new.out) c.put_lines.new.buffer (text lines) c.put_lines.result) c.as_slice-lines.ensures c.put_lines.ensures)
