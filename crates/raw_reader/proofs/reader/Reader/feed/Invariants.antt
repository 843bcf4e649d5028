use Rattle.std.proofs.Common.{◌≡◌, ◌≤◌, ◌-◌, ℕ, List, ◌++◌, length, Some}
use Rattle.std.specs.Prelude.{take}
use Rattle.causal_base.specs.declared.event.Event.{Event}
use Rattle.raw_reader.specs.declared.cause.LineError.{LineError}
use Rattle.raw_reader.specs.ReaderState.{HasRead, KeepsWaiting}
use Rattle.raw_reader.proofs.reader.Reader.feed.Given as goal

abbrev pub invariant-loop-start : goal.invariant-loop-start
invariant-loop-start l = record {
  within : l.start ≤ length l.piece;
  types : l.self.types ≡ l.fn.self.types;
  again : (error : LineError) → l.fn.self.refusal ≡ Some error → l.self ≡ l.fn.self;
  kept : KeepsWaiting l.fn.self l.self;
  stands : (fed : List ℕ) (taken : List (List Event)) → HasRead l.fn.self fed taken → HasRead l.self (fed ++ take l.start l.piece) taken;
}

abbrev pub decreases-loop-start : goal.decreases-loop-start
decreases-loop-start l = length l.piece - l.start
