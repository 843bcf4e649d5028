use Rattle.std.proofs.Common.{◌≡◌, ◌+◌, ◌<◌, List, reverse, Some, refl, sym, ◌∙◌, subst, arith}
use Rattle.std.specs.Prelude.{slice_index, slice_set}
use Rattle.std.proofs.lemmas.List.{length-set}
use Rattle.causal_base.specs.declared.entry.Entry.{Entry}
use Rattle.causal_base.specs.Past.{came, event_of}
use Rattle.causal_base.specs.Index.{IsIndexOf}
use Rattle.causal_base.proofs.Indexes.{IsIndexOf-pair}
use Rattle.causal_base.proofs.indexed_journal.IndexedJournal.push_pair.Goals as goal

pub invariant_of-self : goal.invariant_of-self
invariant_of-self c =
    let j = c.self.inside in
    let a = c.args.first in
    let b = c.args.second in
    let x = c.requires.first.0 in
    let y = c.requires.second.0 in
    let found_a = subst (λ (xs : List Entry). event_of (came (reverse xs)) a ≡ Some x) (sym c.self.view_is) c.requires.first.1 in
    let found_b = subst (λ (xs : List Entry). event_of (came (reverse xs)) b ≡ Some y) (sym c.self.view_is) c.requires.second.1 in
    let between = slice_set j.counts a.trace (slice_index j.counts a.trace + 1) in
    let below : a.trace < 256 = omega (arith, c.requires.first_trace, c.requires.second_trace) in (
      subst (λ (xs : List Entry). IsIndexOf xs j.places (slice_set between b.trace (slice_index between b.trace + 1)) j.accepted) (sym c.push_reserved.ensures.items)
          (IsIndexOf-pair j.entries.items j.places j.counts j.accepted c.self.invariant.0 a b x y found_a found_b below c.requires.second_trace c.self.told
          between refl (length-set j.counts a.trace (slice_index j.counts a.trace + 1) ∙ c.self.told)),
      omega arith,
    )
