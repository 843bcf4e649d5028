use Rattle.std.proofs.Common.{◌≡◌, List, ◌++◌}
use Rattle.causal_base.specs.declared.event.Event.{Event}
use Rattle.poet_top.specs.Taking.{HasTaken}
use Rattle.poet_top.proofs.taking.offer_all.Given as goal

-- the events so far were taken behind any that were taken before
abbrev pub invariant-loop-event : goal.invariant-loop-event
invariant-loop-event l = record {
  can : (goal.iterator-loop-event).can_next l.event-iterator;
  ends : (goal.iterator-loop-event).is_finite l.event-iterator;
  types : l.plain.types ≡ l.initial.plain.types;
  took : (events : List Event) → HasTaken l.initial.plain.types events l.initial.plain.journal → HasTaken l.initial.plain.types (events ++ l.yielded) l.plain.journal;
}
