use Rattle.std.proofs.Common.{take}
use Rattle.std.specs.List.{flat_map}
use Rattle.answer_text.specs.Texts.{text_of_count}
use Rattle.poet_io.specs.Writes.{IsWritten}
use Rattle.run_text.proofs.words.put_sizes.Given as goal

-- how far the sizes have come
abbrev pub invariant-loop-level : goal.invariant-loop-level
invariant-loop-level g l =
    let state = g.K.Sink.state in
    IsWritten (state l.fn.out) (state l.out) (flat_map text_of_count (take l.level l.sizes))
