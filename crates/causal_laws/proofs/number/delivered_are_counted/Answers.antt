use Rattle.std.specs.Prelude.{reverse}
use Rattle.causal_base.specs.Journal.{delivered_by}
use Rattle.causal_base.proofs.CallerLemmas.{came_fit, delivered_came}
use Rattle.causal_laws.proofs.CountedTraces.{counted_few, counted_all}
use Rattle.causal_laws.proofs.number.delivered_are_counted.Goals as goal

pub returns-clause-first : goal.returns-clause-first
returns-clause-first c types journal legal traces = counted_few traces (delivered_by journal)

pub returns-clause-all : goal.returns-clause-all
returns-clause-all c types journal legal = counted_all types.traces (delivered_by journal)
    (λ e there. (came_fit types (reverse journal) legal e (delivered_came types (reverse journal) legal e there)).id.trace)
