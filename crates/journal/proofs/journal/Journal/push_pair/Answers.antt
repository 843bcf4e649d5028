use Rattle.std.proofs.Common.{◌≡◌, ◌<◌, ◌*◌, ◌+◌, ◌∷◌, ◌++◌, [], List, length, reverse, refl, sym, ◌∙◌, ap, subst, arith, Some}
use Rattle.std.proofs.lemmas.List.{length-set}
use Rattle.std.specs.Prelude.{vec_capacity, slice_index, slice_set}
use Rattle.causal_base.specs.declared.entry.Entry.{Entry}
use Rattle.causal_base.specs.declared.entry.Entry.TheVariants as owned
use Rattle.causal_base.specs.Past.{came, event_of}
use Rattle.journal.specs.declared.mark.Mark.{Mark}
use Rattle.journal.specs.declared.mark.Mark.TheVariants.{Pair}
use Rattle.journal.specs.Marks.{entries_of}
use Rattle.journal.specs.Store.{IsStore}
use Rattle.journal.proofs.Stores.{entries_pair, has_place, pair_store, room_left}
use Rattle.journal.proofs.journal.Journal.push_pair.Goals as goal

pub push_reserved-requires : goal.push_reserved-requires
push_reserved-requires c =
    let j = c.self.inside in
    let below = room_left j.events.items j.marks.items (vec_capacity j.marks) j.index j.counts j.delivered c.self.invariant
    (subst (λ (es : List Entry). length es < 2 * length (came (reverse es)) + 16) (sym c.self.view_is) c.requires.room) in
    omega (arith, below, j.marks.ok.0)

pub invariant_of-self : goal.invariant_of-self
invariant_of-self c =
    let j = c.self.inside in
    let x = c.requires.first.0 in
    let y = c.requires.second.0 in
    let is_x = subst (λ (es : List Entry). event_of (came (reverse es)) c.args.first ≡ Some x) (sym c.self.view_is) c.requires.first.1 in
    let is_y = subst (λ (es : List Entry). event_of (came (reverse es)) c.args.second ≡ Some y) (sym c.self.view_is) c.requires.second.1 in
    let at_x = sym c.place.ensures ∙ c.in-Some.is in
    let at_y = sym c.place-2.ensures ∙ c.in-Some-place.is in
    let below : c.args.first.trace < 256 = omega (arith, c.requires.first_trace, c.requires.second_trace) in
    let between = slice_set j.counts c.args.first.trace (slice_index j.counts c.args.first.trace + 1) in
    subst (λ (ms : List Mark). IsStore j.events.items ms (vec_capacity c.push_reserved.new.self) j.index (slice_set (slice_set j.counts c.args.first.trace (slice_index j.counts c.args.first.trace + 1)) c.args.second.trace (slice_index (slice_set j.counts c.args.first.trace (slice_index j.counts c.args.first.trace + 1)) c.args.second.trace + 1)) (j.delivered + 2)) (sym c.push_reserved.ensures.items)
    (subst (λ room. IsStore j.events.items (j.marks.items ++ Pair c.in-Some.lower c.in-Some-place.upper ∷ []) room j.index (slice_set (slice_set j.counts c.args.first.trace (slice_index j.counts c.args.first.trace + 1)) c.args.second.trace (slice_index (slice_set j.counts c.args.first.trace (slice_index j.counts c.args.first.trace + 1)) c.args.second.trace + 1)) (j.delivered + 2)) (sym c.push_reserved.ensures.capacity)
    (pair_store j.events.items j.marks.items (vec_capacity j.marks) j.index j.counts j.delivered c.self.invariant c.args.first c.args.second x y is_x is_y c.in-Some.lower c.in-Some-place.upper at_x at_y below c.requires.second_trace c.self.told between refl (length-set j.counts c.args.first.trace (slice_index j.counts c.args.first.trace + 1) ∙ c.self.told) (subst (λ (es : List Entry). length es < 2 * length (came (reverse es)) + 16) (sym c.self.view_is) c.requires.room)))

pub returns : goal.returns
returns c =
    let j = c.self.inside in
    let x = c.requires.first.0 in
    let y = c.requires.second.0 in
    let is_x = subst (λ (es : List Entry). event_of (came (reverse es)) c.args.first ≡ Some x) (sym c.self.view_is) c.requires.first.1 in
    let is_y = subst (λ (es : List Entry). event_of (came (reverse es)) c.args.second ≡ Some y) (sym c.self.view_is) c.requires.second.1 in
    let at_x = sym c.place.ensures ∙ c.in-Some.is in
    let at_y = sym c.place-2.ensures ∙ c.in-Some-place.is in
    let below : c.args.first.trace < 256 = omega (arith, c.requires.first_trace, c.requires.second_trace) in
    ap (λ (ms : List Mark). entries_of j.events.items ms) c.push_reserved.ensures.items
    ∙ (entries_pair j.events.items j.marks.items (vec_capacity j.marks) j.index j.counts j.delivered c.self.invariant c.args.first c.args.second x y is_x is_y c.in-Some.lower c.in-Some-place.upper at_x at_y below c.requires.second_trace c.self.told
    ∙ ap (λ (es : List Entry). es ++ owned.Pair c.args.first c.args.second ∷ []) c.self.view_is)

pub returns-in_default : goal.returns-in_default
returns-in_default c =
    let j = c.self.inside in
    let x = c.requires.first.0 in
    let y = c.requires.second.0 in
    let is_x = subst (λ (es : List Entry). event_of (came (reverse es)) c.args.first ≡ Some x) (sym c.self.view_is) c.requires.first.1 in
    let is_y = subst (λ (es : List Entry). event_of (came (reverse es)) c.args.second ≡ Some y) (sym c.self.view_is) c.requires.second.1 in
    absurd (has_place j.events.items j.marks.items (vec_capacity j.marks) j.index j.counts j.delivered c.self.invariant c.args.first x is_x (sym c.place.ensures ∙ c.in_default.is))

pub returns-in_default-place : goal.returns-in_default-place
returns-in_default-place c =
    let j = c.self.inside in
    let x = c.requires.first.0 in
    let y = c.requires.second.0 in
    let is_x = subst (λ (es : List Entry). event_of (came (reverse es)) c.args.first ≡ Some x) (sym c.self.view_is) c.requires.first.1 in
    let is_y = subst (λ (es : List Entry). event_of (came (reverse es)) c.args.second ≡ Some y) (sym c.self.view_is) c.requires.second.1 in
    absurd (has_place j.events.items j.marks.items (vec_capacity j.marks) j.index j.counts j.delivered c.self.invariant c.args.second y is_y (sym c.place-2.ensures ∙ c.in_default-place.is))
