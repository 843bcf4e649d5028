use Rattle.std.specs.Prelude.{reverse}
use Rattle.causal_base.specs.Journal.{deliveries_by}
use Rattle.causal_base.proofs.CallerLemmas.{causal}
use Rattle.causal_laws.proofs.StampLaws.{own_clock_grows, own_clock_back}
use Rattle.causal_laws.proofs.stamp.own_history_has_clock.Goals as goal

pub returns : goal.returns
returns c types journal legal e there trace n = (
  own_clock_grows types (deliveries_by journal) (causal types (reverse journal) legal) e there trace n,
  own_clock_back types (deliveries_by journal) (causal types (reverse journal) legal) e there trace n,
)
