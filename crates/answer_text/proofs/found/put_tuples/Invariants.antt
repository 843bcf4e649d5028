use Rattle.std.proofs.Common.{take}
use Rattle.std.specs.List.{flat_map}
use Rattle.answer_text.specs.Texts.{text_of_tuple}
use Rattle.poet_io.specs.Writes.{IsWritten}
use Rattle.answer_text.proofs.found.put_tuples.Given as goal

-- how far the matches have come
abbrev pub invariant-loop-tuple : goal.invariant-loop-tuple
invariant-loop-tuple g l =
    let state = g.K.Sink.state in
    IsWritten (state l.fn.out) (state l.out) (flat_map text_of_tuple (take l.tuple-index l.tuples))
