-- What is pushed out was there, and the new entry has no clock.
use Rattle.std.proofs.Common.{◌∙◌, sym, subst, Some}
use Rattle.std.specs.Prelude.{Contains}
use Rattle.causal_base.specs.Past.{is_same_id}
use Rattle.vector_flight.proofs.Kept.{Entries, reserved, dropped}
use Rattle.vector_flight.proofs.sends.Sends.reserve.Goals as goal
use Rattle.vector_flight.proofs.sends.Sends.reserve.Goals.{in-Some, in-None}

pub returns-clause-dropped : goal.returns-clause-dropped
returns-clause-dropped c = elim c.match-branch-2.branch [
  | in-Some w ↦ rw (w.result-is, ← c.self.view_is) (dropped is_same_id c.args.id c.self.inside.clocks w.in-Some.field-0-0 w.in-Some.dropped (sym c.in_ok-dropped.ensures.old ∙ w.in-Some.is))
  | in-None w ↦ rw w.result-is tt
]

pub returns-clause-no_more : goal.returns-clause-no_more
returns-clause-no_more c key clock there =
    subst (λ (es : Entries). Contains es (key, Some clock)) c.self.view_is (reserved is_same_id c.args.id c.self.inside.clocks key clock (subst (λ cache. Contains cache.entries (key, Some clock)) c.in_ok-dropped.ensures.entries there))
