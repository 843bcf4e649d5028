use Rattle.std.proofs.Common.{◌≡◌}
use Rattle.std.specs.List.{sum_by}
use Rattle.causal_base.specs.Clusters.{numbers_below}
use Rattle.causal_base.specs.History.{count_on}
use Rattle.causal_base.specs.Journal.{delivered_by}
use Rattle.run_text.proofs.counts.count_delivered.Given as goal

-- the events of the traces so far are counted
abbrev pub invariant-loop-trace : goal.invariant-loop-trace
invariant-loop-trace l = l.delivered ≡ sum_by (λ trace. count_on trace (delivered_by l.desk.journal)) (numbers_below l.trace)
