use Rattle.std.proofs.Common.{◌++◌, subst, arith}
use Rattle.std.specs.Prelude.{codes}
use Rattle.poet_serve.specs.declared.report.Line.{Line}
use Rattle.text_buffer.proofs.CallerLemmas.{Comes, IsCutBehind, each_comes, ends_cut_behind, none_comes}
use Rattle.run_text.specs.Lines.{text_of_line}
use Rattle.run_text.specs.Printable.{IsPrintableLine}
use Rattle.run_text.proofs.Lines.{all_mapped_come, mapped_cut}
use Rattle.run_text.proofs.Printables.{each_at}
use Rattle.run_text.proofs.run.put_lines.Goals as goal

pub put_line-requires : goal.put_line-requires
put_line-requires g c =
    each_at (IsPrintableLine c.args.types.now c.args.script.now) c.args.lines.now c.loop-line.line-index c.line-item.result c.requires (omega arith) c.line-item.is

pub loop-line-init : goal.loop-line-init
loop-line-init g c = none_comes (g.K.Sink.state c.args.out.now) c.args.buffer.now

pub loop-line-preserved : goal.loop-line-preserved
loop-line-preserved g c =
    let state = g.K.Sink.state in
    let text = λ (line : Line). text_of_line c.args.types.now c.args.script.now line ++ codes "\n" in
    each_comes text c.args.lines.now c.loop-line.line-index c.line-item.result (omega arith) c.loop-line.invariant
    (subst (λ (line : Line). Comes (state c.loop-line.out) c.loop-line.buffer (state c.put_line.new.out) c.put_line.new.buffer (text line)) c.line-item.is c.in_ok-put_line.ensures)

pub returns-in_err-put_line : goal.returns-in_err-put_line
returns-in_err-put_line g c =
    let state = g.K.Sink.state in
    let text = λ (line : Line). text_of_line c.args.types.now c.args.script.now line ++ codes "\n" in
    ends_cut_behind c.put_line.new.buffer c.from_residual.result _ c.from_residual.ensures.1
    (mapped_cut (text_of_line c.args.types.now c.args.script.now) c.args.lines.now c.loop-line.line-index c.line-item.result (omega arith) c.loop-line.invariant
    (subst (λ (line : Line). IsCutBehind (state c.loop-line.out) c.loop-line.buffer (state c.put_line.new.out) (text line)) c.line-item.is c.in_err-put_line.ensures))

pub returns : goal.returns
returns g c =
    all_mapped_come (text_of_line c.args.types.now c.args.script.now) c.args.lines.now c.loop-line.line-index (omega arith) c.loop-line.invariant
