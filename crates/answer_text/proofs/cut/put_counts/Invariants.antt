use Rattle.std.proofs.Common.{take}
use Rattle.std.specs.List.{flat_map}
use Rattle.answer_text.specs.Texts.{text_of_count}
use Rattle.poet_io.specs.Writes.{IsWritten}
use Rattle.answer_text.proofs.cut.put_counts.Given as goal

-- how far the numbers have come
abbrev pub invariant-loop-count : goal.invariant-loop-count
invariant-loop-count g l =
    let state = g.K.Sink.state in
    IsWritten (state l.fn.out) (state l.out) (flat_map text_of_count (take l.count-index l.counts))
