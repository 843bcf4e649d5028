use Rattle.std.proofs.Common.{◌≡◌, ◌+◌, ◌-◌, length}
use Rattle.causal_base.specs.declared.event_id.EventId.{EventId}
use Rattle.journal.specs.Places.{place_in_order}
use Rattle.journal.proofs.index.grow.Given as goal

abbrev pub invariant-loop-in_order : goal.invariant-loop-in_order
invariant-loop-in_order l = (id : EventId) → place_in_order l.in_order.items id ≡ place_in_order l.initial.in_order.items id

abbrev pub decreases-loop-in_order : goal.decreases-loop-in_order
decreases-loop-in_order l = l.trace + 1 - length l.in_order.items
