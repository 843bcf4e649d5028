use Rattle.std.proofs.Common.{◌≡◌, List, length}
use Rattle.causal_base.specs.declared.entry.Entry.{Entry}
use Rattle.causal_base.specs.Journal.{IsLegal, delivered_by}
use Rattle.cut_scroll.specs.Cuts.{IsConsistent}
use Rattle.order_tests.proofs.cuts.are_moved.Given as goal

abbrev pub invariant-loop-next : goal.invariant-loop-next
invariant-loop-next g l = record {
  long : length l.cut ≡ l.book.types.traces;
  consistent : (journal : List Entry) → (journal ≡ l.book.journal) × IsLegal l.book.types journal → IsConsistent l.book.types (delivered_by journal) l.cut;
}
