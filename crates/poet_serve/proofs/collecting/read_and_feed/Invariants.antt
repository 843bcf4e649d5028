use Rattle.std.proofs.Common.{◌≡◌, ◌-◌, None, List, [], ℕ}
use Rattle.std.specs.Prelude.{reverse}
use Rattle.causal_base.specs.Past.{HasEnded}
use Rattle.poet_io.specs.Takes.{TakesPrefix}
use Rattle.raw_reader.specs.ReaderState.{HasRead}
use Rattle.raw_reader.specs.declared.limits.TheConstants.{MOST_INPUT}
use Rattle.poet_serve.specs.Tallies.{HasTakenFrom}
use Rattle.poet_serve.proofs.collecting.read_and_feed.Given as goal

-- the bytes so far are those that the source has given, and their events were taken
abbrev pub invariant-loop-count : goal.invariant-loop-count
invariant-loop-count g l =
    let state = g.S.Source.state in
    record {
      fed : List ℕ;
      given : TakesPrefix (state l.fn.source).left (state l.source).left fed;
      taken : HasTakenFrom HasRead l.collector l.fn.desk.journal l.reader fed l.desk.journal l.tally;
      going : l.reader.refusal ≡ None;
      none_waits : l.reader.waiting ≡ [];
      setup : l.desk.setup ≡ l.fn.desk.setup;
      types : l.reader.types ≡ l.fn.desk.setup.types;
      still : HasEnded (reverse l.desk.journal) l.collector → ⊥;
      no_fault : (state l.source).faults ≡ (state l.fn.source).faults;
      same_name : (state l.source).name ≡ (state l.fn.source).name;
    }

abbrev pub decreases-loop-count : goal.decreases-loop-count
decreases-loop-count g l = MOST_INPUT - l.reader.size
