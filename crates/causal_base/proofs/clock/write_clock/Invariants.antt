use Rattle.std.proofs.Common.{◌≡◌, ◌≤◌, length, reverse, take}
use Rattle.std.specs.Prelude.{Contains}
use Rattle.causal_base.specs.declared.event.Event.{Event}
use Rattle.causal_base.specs.Types.{TypeTable}
use Rattle.causal_base.specs.Past.{delivered}
use Rattle.causal_base.specs.Journal.{IsLegal}
use Rattle.causal_base.specs.ClockWalks.{IsClockSoFar}
use Rattle.causal_base.proofs.clock.write_clock.Given as goal

abbrev pub invariant-loop-left : goal.invariant-loop-left
invariant-loop-left l = record {
  within : l.left ≤ length l.journal;
  so_far : (types : TypeTable) (e : Event) → IsLegal types l.journal → types.traces ≤ length l.fn.into → Contains (delivered (reverse l.journal)) e → e.id ≡ l.fn.end →
      IsClockSoFar types (delivered (reverse l.journal)) (delivered (reverse (take l.left l.journal))) e l.into;
}

abbrev pub decreases-loop-left : goal.decreases-loop-left
decreases-loop-left l = l.left
