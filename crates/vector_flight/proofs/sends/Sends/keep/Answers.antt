-- What was written is under the id that was asked for.
use Rattle.std.proofs.Common.{inl, ap, sym}
use Rattle.causal_base.proofs.CallerLemmas.{same_from_is_same_id}
use Rattle.vector_flight.proofs.Kept.{written, unwritten}
use Rattle.vector_flight.proofs.sends.Sends.keep.Goals as goal
use Rattle.vector_flight.proofs.sends.Sends.keep.Goals.{in-Some+in-Some-1, in-Some+in-None-1, in_default}

pub returns : goal.returns
returns c = elim c.match-peek_mut.branch [
  | in-Some+in-Some-1 w ↦ written _ c.args.id (λ key is. sym (same_from_is_same_id c.args.id key is)) c.args.self.now c.self.inside.clocks.entries c.match-peek_mut.self-inside.clocks.entries c.self.view_is c.args.clock (ap (λ i. i.clocks.entries) w.self-inside-is)
  | in-Some+in-None-1 w ↦ written _ c.args.id (λ key is. sym (same_from_is_same_id c.args.id key is)) c.args.self.now c.self.inside.clocks.entries c.match-peek_mut.self-inside.clocks.entries c.self.view_is c.args.clock (ap (λ i. i.clocks.entries) w.self-inside-is)
  | in_default w ↦ λ key other there. inl (unwritten _ c.args.id (λ key is. sym (same_from_is_same_id c.args.id key is)) c.args.self.now c.self.inside.clocks.entries c.match-peek_mut.self-inside.clocks.entries c.self.view_is (ap (λ i. i.clocks.entries) w.self-inside-is) key other there)
]
