-- The clock is the limit of what reaches the event on the trace.
use Rattle.causal_base.proofs.CallerLemmas.{causal}
use Rattle.causal_base.specs.Journal.{deliveries_by}
use Rattle.causal_laws.proofs.Entries.{limit_from_clock}
use Rattle.std.specs.Prelude.{reverse}
use Rattle.causal_laws.proofs.clock.clock_tells_reach.Goals as goal

pub returns : goal.returns
returns c types journal legal e there trace n clock x inside on =
    let limit = limit_from_clock types (deliveries_by journal) (causal types (reverse journal) legal) e there trace n clock in
    (limit.from x inside on, limit.to x inside on)
