use Rattle.std.proofs.Common.{◌≡◌, List, sym, ◌∙◌, ap, subst}
use Rattle.std.specs.Prelude.{Contains}
use Rattle.std.proofs.lemmas.Option.{IfSome_then}
use Rattle.causal_base.specs.declared.entry.Entry.{Entry}
use Rattle.causal_base.specs.declared.event_id.EventId.{EventId}
use Rattle.causal_base.specs.Journal.{delivered_by}
use Rattle.causal_base.specs.Past.{HasEvent}
use Rattle.event_book.specs.Stamping.{StampedState}
use Rattle.event_book.proofs.Going.{delivered_is_it, none_delivered}
use Rattle.event_book.proofs.Outcomes.{if_none_then}
use Rattle.event_book.proofs.stamped.StampedCausal.event.Goals as goal

pub returns-clause-some : goal.returns-clause-some
returns-clause-some c =
    let j = c.self.inside.delivery.journal in
    let delivered = c.is_delivered.ensures.0 c.if-not-is_delivered.false in
    IfSome_then c.event.result c.event.ensures.some (λ e has journal own.
    let same = own.same ∙ ap (λ (v : StampedState). v.journal) (sym c.self.view_is) in
    subst (λ (l : List Entry). Contains (delivered_by l) e.now × (e.now.id ≡ c.args.id)) (sym same)
    (delivered_is_it c.self.inside.delivery.types j c.self.invariant.legal e.now has.0 (subst (λ (i : EventId). HasEvent (delivered_by j) i) (sym has.1) delivered), has.1))

pub returns-clause-none : goal.returns-clause-none
returns-clause-none c =
    let j = c.self.inside.delivery.journal in
    if_none_then c.event.result c.event.ensures.none (λ none journal own.
    let same = own.same ∙ ap (λ (v : StampedState). v.journal) (sym c.self.view_is) in
    subst (λ (l : List Entry). HasEvent (delivered_by l) c.args.id → ⊥) (sym same) (none_delivered c.self.inside.delivery.types j c.self.invariant.legal c.args.id none))
