use Rattle.std.proofs.Common.{length, take, ◌-◌, ◌≤◌}
use Rattle.poet_io.specs.Writes.{IsWritten}
use Rattle.poet_io.proofs.writing.put.Given as goal

-- how far the bytes have come
abbrev pub invariant-loop-written : goal.invariant-loop-written
invariant-loop-written g l =
    let state = g.K.Sink.state in
    record {
      within : l.written ≤ length l.bytes;
      so_far : IsWritten (state l.fn.out) (state l.out) (take l.written l.bytes);
    }

abbrev pub decreases-loop-written : goal.decreases-loop-written
decreases-loop-written g l = length l.bytes - l.written
