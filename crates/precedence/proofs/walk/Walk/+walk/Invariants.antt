use Rattle.std.proofs.Common.{◌+◌, ◌-◌, ◌*◌, ◌≤◌}
use Rattle.causal_base.specs.declared.event.Event.{Event}
use Rattle.precedence.specs.StampedJournal.{StampedJournal, IsStampIn}
use Rattle.precedence.specs.Walking.{bound_from, IsBetween, IsOver, TakesInEntries}
use Rattle.precedence.proofs.walk.Walk.+walk.Given as goal

abbrev pub decreases-take_in : goal.decreases-take_in
decreases-take_in g l = 3 * (256 - l.stamp.now.level) + 2

abbrev pub decreases-take_in_entries : goal.decreases-take_in_entries
decreases-take_in_entries g l = 3 * (256 - l.stamp.now.level) + 1

abbrev pub decreases-take_in_entry : goal.decreases-take_in_entry
decreases-take_in_entry g l = 3 * (256 - l.level)

-- The entries on the members before this place were taken in.
abbrev pub invariant-take_in_entries-loop-place : goal.invariant-take_in_entries-loop-place
invariant-take_in_entries-loop-place g l = record {
  taken : (w : StampedJournal) → IsOver w l.self.stamps.now.lists l.self.wanted l.initial.into → (e : Event) → IsStampIn w e l.stamp → TakesInEntries w l.self.wanted e (IsBetween l.stamp.members l.from l.place) l.initial.into l.into;
  steps : (w : StampedJournal) → IsOver w l.self.stamps.now.lists l.self.wanted l.initial.into → (e : Event) → IsStampIn w e l.stamp → l.steps ≤ l.initial.steps + (l.place - l.from) * bound_from w (l.stamp.level + 1);
}
