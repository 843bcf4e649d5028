use Rattle.std.proofs.Common.{take}
use Rattle.std.specs.List.{enumerate_from, flat_map, zip}
use Rattle.text_buffer.proofs.CallerLemmas.{Comes}
use Rattle.run_text.specs.Lines.{ended_lines, lines_of_client}
use Rattle.run_text.proofs.run.put_clients.Given as goal

-- how far the clients have come
abbrev pub invariant-loop-client : goal.invariant-loop-client
invariant-loop-client g l =
    let state = g.K.Sink.state in
    Comes (state l.fn.out) l.fn.buffer (state l.out) l.buffer (flat_map (λ one. ended_lines (lines_of_client l.run.desk.setup.types one.0 one.1.0 one.1.1)) (take l.client (enumerate_from 0 (zip l.scripts l.run.clients))))
