use Rattle.std.proofs.Common.{List, ◌++◌, length, map, subst}
use Rattle.std.specs.Prelude.{codes}
use Rattle.poet_serve.specs.declared.report.Line.{Line}
use Rattle.event_book.specs.declared.setup.Setup.{Setup}
use Rattle.text_buffer.proofs.CallerLemmas.{Comes, IsCutBehind, cut_behind_more, ends_cut_behind, gathers_after}
use Rattle.text_buffer.specs.Gathering.{Gathers}
use Rattle.run_text.specs.Lines.{ended_lines, text_of_line, with_number}
use Rattle.run_text.proofs.run.put_closing.Goals as goal

pub returns-in_err-put : goal.returns-in_err-put
returns-in_err-put g c =
    let state = g.K.Sink.state in
    let run = c.args.run.now in
    ends_cut_behind c.put.new.self c.from_residual.result _ c.from_residual.ensures.1
    (cut_behind_more (ended_lines (map (text_of_line run.desk.setup.types c.args.script.now) run.closing.lines))
    (subst (λ (lines : List Line). IsCutBehind (state c.args.out.now) c.args.buffer.now (state c.put.new.out) (with_number (codes "closing ") (length lines) ++ codes "\n")) c.as_slice-lines.ensures c.in_err-put.ensures))

pub returns : goal.returns
returns g c =
    let state = g.K.Sink.state in
    let run = c.args.run.now in
    let text = λ (setup : Setup) (lines : List Line). ended_lines (map (text_of_line setup.types c.args.script.now) lines) in
    gathers_after (state c.put_lines.new.out) c.put_lines.new.buffer (text run.desk.setup run.closing.lines) c.put_lines.result
    (subst (λ (lines : List Line). Comes (state c.args.out.now) c.args.buffer.now (state c.put.new.out) c.put.new.self (with_number (codes "closing ") (length lines) ++ codes "\n")) c.as_slice-lines.ensures c.in_ok-put.ensures)
    (subst (λ (setup : Setup). Gathers (state c.put.new.out) c.put.new.self (state c.put_lines.new.out) c.put_lines.new.buffer (text setup run.closing.lines) c.put_lines.result) c.setup.ensures.value
    (subst (λ (lines : List Line). Gathers (state c.put.new.out) c.put.new.self (state c.put_lines.new.out) c.put_lines.new.buffer (text c.setup.result.now lines) c.put_lines.result) c.as_slice-lines.ensures c.put_lines.ensures))
