use Rattle.std.proofs.Common.{◌≡◌, List}
use Rattle.std.specs.List.{sum_by}
use Rattle.causal_base.specs.declared.entry.Entry.{Entry}
use Rattle.causal_base.specs.Clusters.{numbers_below}
use Rattle.causal_base.specs.History.{count_on}
use Rattle.causal_base.specs.Journal.{delivered_by}
use Rattle.client_session.proofs.replies.count_delivered.Given as goal

-- the events of the traces so far are counted
abbrev pub invariant-loop-trace : goal.invariant-loop-trace
invariant-loop-trace g l = (journal : List Entry) → g.B.Causal.stands_for l.book journal → l.delivered ≡ sum_by (λ trace. count_on trace (delivered_by journal)) (numbers_below l.trace)
