use Rattle.std.proofs.Common.{◌≡◌, ◌<◌, ◌*◌, ◌+◌, ◌∷◌, ◌++◌, [], List, length, reverse, sym, ◌∙◌, ap, subst, arith, Some}
use Rattle.std.specs.Prelude.{vec_capacity, slice_index, slice_set}
use Rattle.causal_base.specs.declared.entry.Entry.{Entry}
use Rattle.causal_base.specs.declared.entry.Entry.TheVariants as owned
use Rattle.causal_base.specs.Past.{came, event_of}
use Rattle.journal.specs.declared.mark.Mark.{Mark}
use Rattle.journal.specs.declared.mark.Mark.TheVariants.{Gone}
use Rattle.journal.specs.Marks.{entries_of}
use Rattle.journal.specs.Store.{IsStore}
use Rattle.journal.proofs.Stores.{entries_gone, gone_store, has_place, room_left}
use Rattle.journal.proofs.journal.Journal.push_gone.Goals as goal

pub push_reserved-requires : goal.push_reserved-requires
push_reserved-requires c =
    let j = c.self.inside in
    let below = room_left j.events.items j.marks.items (vec_capacity j.marks) j.index j.counts j.delivered c.self.invariant
    (subst (λ (es : List Entry). length es < 2 * length (came (reverse es)) + 16) (sym c.self.view_is) c.requires.room) in
    omega (arith, below, j.marks.ok.0)

pub invariant_of-self : goal.invariant_of-self
invariant_of-self c =
    let j = c.self.inside in
    let e = c.requires.came.0 in
    let is = subst (λ (es : List Entry). event_of (came (reverse es)) c.args.id ≡ Some e) (sym c.self.view_is) c.requires.came.1 in
    let at = sym c.place.ensures ∙ c.in-Some.is in
    subst (λ (ms : List Mark). IsStore j.events.items ms (vec_capacity c.push_reserved.new.self) j.index (slice_set j.counts c.args.id.trace (slice_index j.counts c.args.id.trace + 1)) (j.delivered + 1)) (sym c.push_reserved.ensures.items)
    (subst (λ room. IsStore j.events.items (j.marks.items ++ Gone c.in-Some.place ∷ []) room j.index (slice_set j.counts c.args.id.trace (slice_index j.counts c.args.id.trace + 1)) (j.delivered + 1)) (sym c.push_reserved.ensures.capacity)
    (gone_store j.events.items j.marks.items (vec_capacity j.marks) j.index j.counts j.delivered c.self.invariant c.args.id e is c.in-Some.place at c.requires.trace c.self.told (subst (λ (es : List Entry). length es < 2 * length (came (reverse es)) + 16) (sym c.self.view_is) c.requires.room)))

pub returns-in-Some : goal.returns-in-Some
returns-in-Some c =
    let j = c.self.inside in
    let e = c.requires.came.0 in
    let is = subst (λ (es : List Entry). event_of (came (reverse es)) c.args.id ≡ Some e) (sym c.self.view_is) c.requires.came.1 in
    let at = sym c.place.ensures ∙ c.in-Some.is in
    ap (λ (ms : List Mark). entries_of j.events.items ms) c.push_reserved.ensures.items
    ∙ (entries_gone j.events.items j.marks.items (vec_capacity j.marks) j.index j.counts j.delivered c.self.invariant c.args.id e is c.in-Some.place at c.requires.trace c.self.told
    ∙ ap (λ (es : List Entry). es ++ owned.Gone c.args.id ∷ []) c.self.view_is)

pub returns-in_default : goal.returns-in_default
returns-in_default c =
    let j = c.self.inside in
    let e = c.requires.came.0 in
    let is = subst (λ (es : List Entry). event_of (came (reverse es)) c.args.id ≡ Some e) (sym c.self.view_is) c.requires.came.1 in
    absurd (has_place j.events.items j.marks.items (vec_capacity j.marks) j.index j.counts j.delivered c.self.invariant c.args.id e is (sym c.place.ensures ∙ c.in_default.is))
