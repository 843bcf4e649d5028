use Rattle.std.proofs.Common.{List, sym, ap, subst, arith}
use Rattle.std.specs.BTreeMap.{is_at}
use Rattle.std.specs.Map.{lookup}
use Rattle.causal_base.specs.declared.entry.Entry.{Entry}
use Rattle.causal_base.specs.Index.{id_cmp, IsIndexOf}
use Rattle.causal_base.proofs.Indexes.{IsIndexOf-nil}
use Rattle.causal_base.proofs.indexed_journal.IndexedJournal.new.Goals as goal

pub invariant_of-result : goal.invariant_of-result
invariant_of-result c = (
  subst (λ (xs : List Entry). IsIndexOf xs c.new-2.result c.no_counts.result 0) (sym c.new.ensures.items)
      (IsIndexOf-nil c.new-2.result c.no_counts.result (λ q. ap (λ entries. lookup (is_at (id_cmp q)) entries) c.new-2.ensures.empty) c.no_counts.ensures),
  omega arith,
)
