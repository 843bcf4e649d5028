use Rattle.std.proofs.Common.{◌≡◌, ◌<◌, [], ◌∷◌, ◌++◌, length, reverse, sym, subst}
use Rattle.std.specs.Prelude.{◌↔◌, Contains, Ok, Err, OnOk, OnErr}
use Rattle.causal_base.specs.declared.entry.Entry.TheVariants.{Came}
use Rattle.causal_base.specs.declared.limits.TheConstants.{MOST_EVENTS}
use Rattle.causal_base.specs.declared.refusal.Refusal.TheVariants.{Clash}
use Rattle.causal_base.specs.Event.{IsFit}
use Rattle.causal_base.specs.Journal.{came_by}
use Rattle.causal_base.specs.Past.{HasEnded, HasEvent, HasNoNext}
use Rattle.delivery.specs.Deliveries.{TypedJournal}
use Rattle.event_book.specs.Stamping.{IsStamped, StampedState}
use Rattle.event_book.proofs.Going.{stamped_came}
use Rattle.event_book.proofs.stamped.Stamped.accept.Goals as goal

pub invariant_of-self : goal.invariant_of-self
invariant_of-self c =
    let old = c.self.inside.delivery in
    let With : TypedJournal → Type 0 = λ d. IsStamped (record { types = d.types; journal = d.journal; levels = c.self.inside.levels; stamps = c.self.inside.stamps; full = c.self.inside.full }) in
    let s : StampedState = record { types = old.types; journal = old.journal; levels = c.self.inside.levels; stamps = c.self.inside.stamps; full = c.self.inside.full } in
    let fit = subst (λ (v : StampedState). IsFit v.types c.args.event) (sym c.self.view_is) c.requires.fit in
    let settled = subst (λ (v : StampedState). HasNoNext v.types (reverse v.journal)) (sym c.self.view_is) c.requires.settled in
    let open_yet = subst (λ (v : StampedState). HasEnded (reverse v.journal) c.args.collector → ⊥) (sym c.self.view_is) c.requires.open in
    elim c.accept.result as (λ r. OnOk r (c.accept.new.self ≡ record { types = old.types; journal = old.journal ++ Came c.args.collector c.args.event ∷ [] }) → OnErr r (c.accept.new.self ≡ old)
    → OnOk r ((HasEvent (came_by old.journal) c.args.event.id → ⊥) × (length (came_by old.journal) < MOST_EVENTS)) → With c.accept.new.self) [
      | Ok t ↦ λ came same new. subst With (sym came) (stamped_came s c.self.invariant c.args.collector c.args.event fit settled open_yet new.0 new.1)
      | Err e ↦ λ came same new. subst With (sym same) c.self.invariant
    ] c.accept.ensures.came c.accept.ensures.err c.accept.ensures.new

pub returns-clause-clash : goal.returns-clause-clash
returns-clause-clash c =
    subst (λ (v : StampedState). (c.accept.result ≡ Err Clash) ↔ (HasEvent (came_by v.journal) c.args.event.id × (Contains (came_by v.journal) c.args.event → ⊥))) c.self.view_is c.accept.ensures.clash

pub returns-clause-new : goal.returns-clause-new
returns-clause-new c =
    subst (λ (v : StampedState). OnOk c.accept.result ((HasEvent (came_by v.journal) c.args.event.id → ⊥) × (length (came_by v.journal) < MOST_EVENTS))) c.self.view_is c.accept.ensures.new
