use Rattle.std.proofs.Common.{length, ◌-◌, ◌≡◌, ◌≤◌}
use Rattle.poet_io.specs.Takes.{TakesPrefix}
use Rattle.poet_io.proofs.reading.read_all.Given as goal

-- the bytes are those that the source has given
abbrev pub invariant-loop-bytes : goal.invariant-loop-bytes
invariant-loop-bytes g l =
    let state = g.S.Source.state in
    record {
      within : length l.bytes.items ≤ l.limit;
      given : TakesPrefix (state l.fn.source).left (state l.source).left l.bytes.items;
      no_fault : (state l.source).faults ≡ (state l.fn.source).faults;
      same_name : (state l.source).name ≡ (state l.fn.source).name;
    }

abbrev pub decreases-loop-bytes : goal.decreases-loop-bytes
decreases-loop-bytes g l = l.limit - length l.bytes.items
