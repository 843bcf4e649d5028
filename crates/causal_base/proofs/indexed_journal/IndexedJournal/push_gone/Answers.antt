use Rattle.std.proofs.Common.{◌≡◌, ◌+◌, List, reverse, Some, sym, subst, arith}
use Rattle.std.specs.Prelude.{slice_index, slice_set}
use Rattle.causal_base.specs.declared.entry.Entry.{Entry}
use Rattle.causal_base.specs.Past.{came, event_of}
use Rattle.causal_base.specs.Index.{IsIndexOf}
use Rattle.causal_base.proofs.Indexes.{IsIndexOf-gone}
use Rattle.causal_base.proofs.indexed_journal.IndexedJournal.push_gone.Goals as goal

pub invariant_of-self : goal.invariant_of-self
invariant_of-self c =
    let j = c.self.inside in
    let e = c.requires.came.0 in
    let found = subst (λ (xs : List Entry). event_of (came (reverse xs)) c.args.id ≡ Some e) (sym c.self.view_is) c.requires.came.1 in (
      subst (λ (xs : List Entry). IsIndexOf xs j.places (slice_set j.counts c.args.id.trace (slice_index j.counts c.args.id.trace + 1)) j.accepted) (sym c.push_reserved.ensures.items)
          (IsIndexOf-gone j.entries.items j.places j.counts j.accepted c.self.invariant.0 c.args.id e found c.requires.trace c.self.told),
      omega arith,
    )
