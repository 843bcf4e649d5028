use Rattle.std.proofs.Common.{◌<◌, ◌*◌, ◌+◌, ◌∷◌, ◌++◌, [], List, length, reverse, sym, ◌∙◌, ap, subst, arith}
use Rattle.std.specs.Prelude.{vec_capacity}
use Rattle.causal_base.specs.declared.entry.Entry.{Entry}
use Rattle.causal_base.specs.declared.entry.Entry.TheVariants as owned
use Rattle.causal_base.specs.Past.{came}
use Rattle.journal.specs.declared.mark.Mark.{Mark}
use Rattle.journal.specs.declared.mark.Mark.TheVariants.{Ended}
use Rattle.journal.specs.Marks.{entries_of}
use Rattle.journal.specs.Store.{IsStore}
use Rattle.journal.proofs.Stores.{ended_store, entries_ended, room_left}
use Rattle.journal.proofs.journal.Journal.push_ended.Goals as goal

pub push_reserved-requires : goal.push_reserved-requires
push_reserved-requires c =
    let j = c.self.inside in
    let below = room_left j.events.items j.marks.items (vec_capacity j.marks) j.index j.counts j.delivered c.self.invariant
    (subst (λ (es : List Entry). length es < 2 * length (came (reverse es)) + 16) (sym c.self.view_is) c.requires) in
    omega (arith, below, j.marks.ok.0)

pub invariant_of-self : goal.invariant_of-self
invariant_of-self c =
    let j = c.self.inside in
    subst (λ (ms : List Mark). IsStore j.events.items ms (vec_capacity c.push_reserved.new.self) j.index j.counts j.delivered) (sym c.push_reserved.ensures.items)
    (subst (λ room. IsStore j.events.items (j.marks.items ++ Ended c.args.collector ∷ []) room j.index j.counts j.delivered) (sym c.push_reserved.ensures.capacity)
    (ended_store j.events.items j.marks.items (vec_capacity j.marks) j.index j.counts j.delivered c.self.invariant c.args.collector (subst (λ (es : List Entry). length es < 2 * length (came (reverse es)) + 16) (sym c.self.view_is) c.requires)))

pub returns : goal.returns
returns c =
    let j = c.self.inside in
    ap (λ (ms : List Mark). entries_of j.events.items ms) c.push_reserved.ensures.items
    ∙ (entries_ended j.events.items j.marks.items (vec_capacity j.marks) j.index j.counts j.delivered c.self.invariant c.args.collector
    ∙ ap (λ (es : List Entry). es ++ owned.Ended c.args.collector ∷ []) c.self.view_is)
