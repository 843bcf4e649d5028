use Rattle.std.proofs.Common.{◌≡◌, ℕ, List, ◌<◌, get_or}
use Rattle.causal_base.specs.declared.entry.Entry.{Entry}
use Rattle.causal_base.specs.History.{count_on}
use Rattle.causal_base.specs.Journal.{delivered_by}
use Rattle.cut_scroll.proofs.cut.take_counts.Given as goal

abbrev pub invariant-loop-trace : goal.invariant-loop-trace
invariant-loop-trace g l = (journal : List Entry) → g.C.Causal.stands_for l.book journal → (k : ℕ) → k < l.trace → get_or l.counts k 0 ≡ count_on k (delivered_by journal)
