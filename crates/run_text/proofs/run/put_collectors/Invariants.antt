use Rattle.std.proofs.Common.{map, take}
use Rattle.std.specs.List.{enumerate_from, flat_map}
use Rattle.poet_serve.specs.Collecting.{told_by}
use Rattle.text_buffer.proofs.CallerLemmas.{Comes}
use Rattle.run_text.specs.Lines.{ended_lines, lines_of_collector}
use Rattle.run_text.proofs.run.put_collectors.Given as goal

-- how far the collectors have come
abbrev pub invariant-loop-collector : goal.invariant-loop-collector
invariant-loop-collector g l =
    let state = g.K.Sink.state in
    Comes (state l.fn.out) l.fn.buffer (state l.out) l.buffer (flat_map (λ one. ended_lines (lines_of_collector one.0 one.1)) (take l.collector (enumerate_from 0 (map told_by l.run.collectors))))
