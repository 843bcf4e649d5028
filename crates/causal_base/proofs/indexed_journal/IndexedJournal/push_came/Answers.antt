use Rattle.std.proofs.Common.{◌≡◌, ◌+◌, ◌++◌, ◌∷◌, [], List, Some, sym, ◌∙◌, ap, subst, arith, length}
use Rattle.std.specs.BTreeMap.{Updates}
use Rattle.causal_base.specs.declared.entry.Entry.{Entry}
use Rattle.causal_base.specs.declared.entry.Entry.TheVariants.{Came}
use Rattle.causal_base.specs.Index.{id_cmp, IsIndexOf}
use Rattle.causal_base.proofs.Indexes.{IsIndexOf-came}
use Rattle.causal_base.proofs.indexed_journal.IndexedJournal.push_came.Goals as goal

pub invariant_of-self-2 : goal.invariant_of-self-2
invariant_of-self-2 c =
    let j = c.self.inside in
    let items : c.push_reserved.new.self.items ≡ j.entries.items ++ Came 0 c.args.event ∷ [] =
    c.push_reserved.ensures.items ∙ ap (λ (xs : List Entry). xs ++ Came 0 c.args.event ∷ []) c.reserve.ensures.items in
    let place : c.len-place.result ≡ length j.entries.items = c.len-place.ensures ∙ j.entries.ok.0 in
    let updates = subst (λ n. Updates id_cmp j.places c.insert.new.self c.args.event.id (Some n)) place c.in_ok-insert.ensures.updates in (
      subst (λ (xs : List Entry). IsIndexOf xs c.insert.new.self j.counts (j.accepted + 1)) (sym items)
          (IsIndexOf-came j.entries.items j.places j.counts j.accepted c.self.invariant.0 c.insert.new.self c.args.event updates),
      omega (arith, c.in_ok-reserve.ensures.ok),
    )
