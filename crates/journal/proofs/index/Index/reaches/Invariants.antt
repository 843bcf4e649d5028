use Rattle.std.proofs.Common.{◌<◌, ◌≤◌}
use Rattle.std.specs.Prelude.{slice_index, IsSome}
use Rattle.causal_base.specs.declared.event_id.EventId.{EventId}
use Rattle.journal.specs.Places.{place_in_order}
use Rattle.journal.proofs.index.Index.reaches.Given as goal

abbrev pub invariant-loop-trace : goal.invariant-loop-trace
invariant-loop-trace l = (id : EventId) → id.trace < l.trace → 1 ≤ id.number → id.number ≤ slice_index l.counts id.trace → IsSome (place_in_order l.self.in_order id)
