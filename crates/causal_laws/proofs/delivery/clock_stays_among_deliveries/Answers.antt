-- The newer deliveries leave the clock as it is.
use Rattle.causal_laws.proofs.Clocks.{clock_grows, clock_back}
use Rattle.causal_laws.proofs.delivery.clock_stays_among_deliveries.Goals as goal

pub returns : goal.returns
returns c types newer past causal e there trace n = (clock_grows types newer past causal e there trace n, clock_back types newer past causal e there trace n)
