use Rattle.std.proofs.Common.{take}
use Rattle.std.specs.List.{flat_map}
use Rattle.answer_text.specs.Texts.{text_of_part}
use Rattle.poet_io.specs.Writes.{IsWritten}
use Rattle.answer_text.proofs.stamp.put_parts.Given as goal

-- how far the parts have come
abbrev pub invariant-loop-part : goal.invariant-loop-part
invariant-loop-part g l =
    let state = g.K.Sink.state in
    IsWritten (state l.fn.out) (state l.out) (flat_map text_of_part (take l.part-index l.parts))
