use Rattle.std.proofs.Common.{take}
use Rattle.std.specs.List.{flat_map}
use Rattle.std.specs.Prelude.{◌++◌, codes}
use Rattle.causal_base.specs.Spelling.{id_text}
use Rattle.poet_io.specs.Writes.{IsWritten}
use Rattle.answer_text.proofs.found.put_next_ids.Given as goal

-- how far the ids have come
abbrev pub invariant-loop-id : goal.invariant-loop-id
invariant-loop-id g l =
    let state = g.K.Sink.state in
    IsWritten (state l.fn.out) (state l.out) (flat_map (λ id. codes "," ++ id_text id) (take l.id-index l.ids))
