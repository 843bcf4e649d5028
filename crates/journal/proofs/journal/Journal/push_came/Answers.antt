use Rattle.std.proofs.Common.{◌≡◌, ◌<◌, ◌∷◌, ◌++◌, [], List, length, reverse, sym, ◌∙◌, ap, subst, arith, Some}
use Rattle.std.specs.Prelude.{vec_capacity}
use Rattle.causal_base.specs.declared.entry.Entry.{Entry}
use Rattle.causal_base.specs.declared.entry.Entry.TheVariants as owned
use Rattle.causal_base.specs.declared.event.Event.{Event}
use Rattle.causal_base.specs.Past.{came, HasEvent}
use Rattle.journal.specs.declared.mark.Mark.{Mark}
use Rattle.journal.specs.declared.mark.Mark.TheVariants.{Came}
use Rattle.journal.specs.Marks.{entries_of}
use Rattle.journal.specs.Store.{IsStore}
use Rattle.journal.proofs.Stores.{came_store, entries_came, kept_store, length_came, no_place, same_places}
use Rattle.journal.proofs.journal.Journal.push_came.Goals as goal

pub insert-requires-clause-absent : goal.insert-requires-clause-absent
insert-requires-clause-absent c =
    let j = c.self.inside in
    let new = subst (λ (es : List Entry). HasEvent (came (reverse es)) c.args.event.id → ⊥) (sym c.self.view_is) c.requires.new in
    no_place j.events.items j.marks.items (vec_capacity j.marks) j.index j.counts j.delivered c.self.invariant c.args.event.id new

pub invariant_of-self-in_err-insert : goal.invariant_of-self-in_err-insert
invariant_of-self-in_err-insert c =
    let j = c.self.inside in
    let new = subst (λ (es : List Entry). HasEvent (came (reverse es)) c.args.event.id → ⊥) (sym c.self.view_is) c.requires.new in
    let was = no_place j.events.items j.marks.items (vec_capacity j.marks) j.index j.counts j.delivered c.self.invariant c.args.event.id new in
    let same = same_places j.index c.insert.new.self c.args.event.id was c.in_err-insert.ensures.err c.in_err-insert.ensures.others in
    subst (λ (es : List Event). IsStore es c.make_room.new.marks.items (vec_capacity c.make_room.new.marks) c.insert.new.self j.counts j.delivered) (sym c.reserve.ensures.items)
    (subst (λ (ms : List Mark). IsStore j.events.items ms (vec_capacity c.make_room.new.marks) c.insert.new.self j.counts j.delivered) (sym c.make_room.ensures.items)
    (kept_store j.events.items j.marks.items (vec_capacity j.marks) j.index j.counts j.delivered c.self.invariant (vec_capacity c.make_room.new.marks) c.insert.new.self c.make_room.ensures.kept same c.in_err-insert.ensures.no_more))

pub push_reserved-requires : goal.push_reserved-requires
push_reserved-requires c =
    let j = c.self.inside in
    let within = c.self.invariant.within in
    let marks = ap length c.make_room.ensures.items in
    omega (arith, within, marks, c.len-place.ensures, c.in_ok-make_room.ensures.ok, c.make_room.new.marks.ok.0)

pub invariant_of-self-2 : goal.invariant_of-self-2
invariant_of-self-2 c =
    let j = c.self.inside in
    let new = subst (λ (es : List Entry). HasEvent (came (reverse es)) c.args.event.id → ⊥) (sym c.self.view_is) c.requires.new in
    let place : c.len-place.result ≡ length j.events.items = c.len-place.ensures in
    let few : length j.events.items < 400_000 = (let all = length_came j.events.items j.marks.items (vec_capacity j.marks) j.index j.counts j.delivered c.self.invariant in let view = ap (λ (es : List Entry). length (came (reverse es))) c.self.view_is in omega (arith, all, view, c.requires.few)) in
    let events : c.push.new.self.items ≡ j.events.items ++ c.args.event ∷ [] = c.push.ensures.items ∙ ap (λ (es : List Event). es ++ c.args.event ∷ []) c.reserve.ensures.items in
    let marks : c.push_reserved.new.self.items ≡ j.marks.items ++ Came c.args.collector (length j.events.items) ∷ [] =
    c.push_reserved.ensures.items ∙ (ap (λ (ms : List Mark). ms ++ Came c.args.collector c.len-place.result ∷ []) c.make_room.ensures.items ∙ ap (λ p. j.marks.items ++ Came c.args.collector p ∷ []) place) in
    subst (λ (es : List Event). IsStore es c.push_reserved.new.self.items (vec_capacity c.push_reserved.new.self) c.insert.new.self j.counts j.delivered) (sym events)
    (subst (λ (ms : List Mark). IsStore (j.events.items ++ c.args.event ∷ []) ms (vec_capacity c.push_reserved.new.self) c.insert.new.self j.counts j.delivered) (sym marks)
    (came_store j.events.items j.marks.items (vec_capacity j.marks) j.index j.counts j.delivered c.self.invariant c.args.event c.args.collector new c.insert.new.self (c.in_ok-insert.ensures.ok ∙ ap Some place) c.in_ok-insert.ensures.others (vec_capacity c.push_reserved.new.self)
    (omega (arith, place, c.in_ok-make_room.ensures.ok, c.push_reserved.ensures.capacity)) few
    (let before = c.self.invariant.early_few in omega (arith, before, c.in_ok-insert.ensures.held))))

pub returns-clause-ok : goal.returns-clause-ok
returns-clause-ok c =
    let j = c.self.inside in
    let new = subst (λ (es : List Entry). HasEvent (came (reverse es)) c.args.event.id → ⊥) (sym c.self.view_is) c.requires.new in
    let place : c.len-place.result ≡ length j.events.items = c.len-place.ensures in
    let events : c.push.new.self.items ≡ j.events.items ++ c.args.event ∷ [] = c.push.ensures.items ∙ ap (λ (es : List Event). es ++ c.args.event ∷ []) c.reserve.ensures.items in
    let marks : c.push_reserved.new.self.items ≡ j.marks.items ++ Came c.args.collector (length j.events.items) ∷ [] =
    c.push_reserved.ensures.items ∙ (ap (λ (ms : List Mark). ms ++ Came c.args.collector c.len-place.result ∷ []) c.make_room.ensures.items ∙ ap (λ p. j.marks.items ++ Came c.args.collector p ∷ []) place) in
    ap (λ (es : List Event). entries_of es c.push_reserved.new.self.items) events
    ∙ (ap (λ (ms : List Mark). entries_of (j.events.items ++ c.args.event ∷ []) ms) marks
    ∙ (entries_came j.events.items j.marks.items (vec_capacity j.marks) j.index j.counts j.delivered c.self.invariant c.args.event c.args.collector new c.insert.new.self (c.in_ok-insert.ensures.ok ∙ ap Some place) c.in_ok-insert.ensures.others
    ∙ ap (λ (es : List Entry). es ++ owned.Came c.args.collector c.args.event ∷ []) c.self.view_is))
