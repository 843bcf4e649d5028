use Rattle.std.specs.Prelude.{reverse}
use Rattle.causal_base.proofs.CallerLemmas.{came_fit, delivered_came}
use Rattle.causal_laws.proofs.number.delivered_is_on_a_trace.Goals as goal

pub returns : goal.returns
returns c types journal legal e there = (came_fit types (reverse journal) legal e (delivered_came types (reverse journal) legal e there)).id.trace
