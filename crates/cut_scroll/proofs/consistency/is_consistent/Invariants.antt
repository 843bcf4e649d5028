use Rattle.std.proofs.Common.{ℕ, List, ◌<◌}
use Rattle.causal_base.specs.declared.entry.Entry.{Entry}
use Rattle.causal_base.specs.Journal.{delivered_by}
use Rattle.cut_scroll.specs.Parts.{IsWholeOn}
use Rattle.cut_scroll.proofs.consistency.is_consistent.Given as goal

abbrev pub invariant-loop-trace : goal.invariant-loop-trace
invariant-loop-trace g l = (journal : List Entry) → g.C.Causal.stands_for l.book journal → (k : ℕ) → k < l.trace → IsWholeOn (g.C.Causal.types l.book) (delivered_by journal) l.counts k
