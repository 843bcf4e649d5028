use Rattle.std.proofs.Common.{◌++◌, take}
use Rattle.std.specs.Prelude.{codes}
use Rattle.std.specs.List.{flat_map}
use Rattle.text_buffer.proofs.CallerLemmas.{Comes}
use Rattle.run_text.specs.Lines.{text_of_clash}
use Rattle.run_text.proofs.run.put_clashes.Given as goal

-- how far the ids have come
abbrev pub invariant-loop-id : goal.invariant-loop-id
invariant-loop-id g l =
    let state = g.K.Sink.state in
    Comes (state l.fn.out) l.fn.buffer (state l.out) l.buffer (flat_map (λ id. text_of_clash id ++ codes "\n") (take l.id-index l.ids))
