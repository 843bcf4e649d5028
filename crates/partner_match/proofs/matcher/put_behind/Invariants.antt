use Rattle.std.proofs.Common.{◌≡◌, ◌≤◌, ◌+◌, length}
use Rattle.std.specs.Prelude.{vec_capacity}
use Rattle.causal_base.specs.declared.event_id.EventId.{EventId}
use Rattle.partner_match.specs.Waiting.{waiting_for}
use Rattle.partner_match.proofs.matcher.put_behind.Given as goal

abbrev pub invariant-loop : goal.invariant-loop
invariant-loop l = record {
  same : (id : EventId) → waiting_for l.waiting.items id ≡ waiting_for l.initial.waiting.items id;
  count : length l.waiting.items ≡ l.counter;
  room : l.trace + 1 ≤ vec_capacity l.waiting;
}
