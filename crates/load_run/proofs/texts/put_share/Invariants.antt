use Rattle.std.proofs.Common.{take}
use Rattle.std.specs.Prelude.{Some}
use Rattle.load_run.specs.LoadTexts.{lines_of, share}
use Rattle.text_buffer.specs.Gathering.{HasCome}
use Rattle.load_run.proofs.texts.put_share.Given as goal

-- the lines of the events so far have come
abbrev pub invariant-loop-event : goal.invariant-loop-event
invariant-loop-event l =
    HasCome (record { faults = l.fn.sink.faults; taken = Some l.fn.sink.taken }) (record { faults = l.sink.faults; taken = Some l.sink.taken }) l.buffer
    (lines_of l.types (share (take l.event-index l.events) l.collector))
