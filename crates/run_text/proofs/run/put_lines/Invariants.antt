use Rattle.std.proofs.Common.{◌++◌, take}
use Rattle.std.specs.Prelude.{codes}
use Rattle.std.specs.List.{flat_map}
use Rattle.text_buffer.proofs.CallerLemmas.{Comes}
use Rattle.run_text.specs.Lines.{text_of_line}
use Rattle.run_text.proofs.run.put_lines.Given as goal

-- how far the lines have come
abbrev pub invariant-loop-line : goal.invariant-loop-line
invariant-loop-line g l =
    let state = g.K.Sink.state in
    Comes (state l.fn.out) l.fn.buffer (state l.out) l.buffer (flat_map (λ line. text_of_line l.types l.script line ++ codes "\n") (take l.line-index l.lines))
