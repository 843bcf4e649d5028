use Rattle.std.proofs.Common.{◌≡◌, ◌-◌, None, List, [], ℕ}
use Rattle.poet_io.specs.Takes.{TakesPrefix}
use Rattle.raw_reader.specs.ReaderState.{HasRead}
use Rattle.raw_reader.specs.declared.limits.TheConstants.{MOST_INPUT}
use Rattle.poet_top.specs.Taking.{HasTakenFrom}
use Rattle.poet_top.proofs.taking.take_events.Given as goal

-- the bytes so far are those that the source has given, and their events were taken
abbrev pub invariant-loop-count : goal.invariant-loop-count
invariant-loop-count g l =
    let state = g.S.Source.state in
    record {
      fed : List ℕ;
      given : TakesPrefix (state l.fn.source).left (state l.source).left fed;
      taken : HasTakenFrom HasRead l.reader fed l.plain.journal;
      going : l.reader.refusal ≡ None;
      none_waits : l.reader.waiting ≡ [];
      same_types : l.plain.types ≡ l.fn.plain.types;
      types : l.reader.types ≡ l.plain.types;
      no_fault : (state l.source).faults ≡ (state l.fn.source).faults;
      same_name : (state l.source).name ≡ (state l.fn.source).name;
    }

abbrev pub decreases-loop-count : goal.decreases-loop-count
decreases-loop-count g l = MOST_INPUT - l.reader.size
