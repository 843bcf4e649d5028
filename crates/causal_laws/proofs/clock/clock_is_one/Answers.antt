-- A clock is a count, and counts of one property agree.
use Rattle.causal_base.specs.declared.event.Event.{Event}
use Rattle.causal_base.specs.Walks.{Reaches}
use Rattle.causal_laws.proofs.Clocks.{counts_is_one}
use Rattle.causal_laws.proofs.clock.clock_is_one.Goals as goal
use Rattle.std.proofs.Common.{◌≡◌}

pub returns : goal.returns
returns c types events e trace m n one other =
    counts_is_one (λ (x : Event). (x.id.trace ≡ trace) × Reaches types events x e) events m n one other
