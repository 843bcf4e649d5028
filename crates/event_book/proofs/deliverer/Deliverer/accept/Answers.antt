use Rattle.std.proofs.Common.{◌≡◌, ◌<◌, length, reverse, sym, subst}
use Rattle.std.specs.Prelude.{◌↔◌, Contains, Err, OnOk}
use Rattle.causal_base.specs.declared.limits.TheConstants.{MOST_EVENTS}
use Rattle.causal_base.specs.declared.refusal.Refusal.TheVariants.{Clash}
use Rattle.causal_base.specs.Journal.{came_by}
use Rattle.causal_base.specs.Past.{HasEvent, HasNoNext}
use Rattle.event_book.specs.Stamping.{StampedState}
use Rattle.event_book.proofs.deliverer.Deliverer.accept.Goals as goal

pub accept-accepted-requires-clause-settled : goal.accept-accepted-requires-clause-settled
accept-accepted-requires-clause-settled c = subst (λ (v : StampedState). HasNoNext v.types (reverse v.journal)) (sym c.self.view_is) c.requires.settled

pub returns-clause-clash : goal.returns-clause-clash
returns-clause-clash c =
    subst (λ (v : StampedState). (c.accept-accepted.result ≡ Err Clash) ↔ (HasEvent (came_by v.journal) c.args.event.id × (Contains (came_by v.journal) c.args.event → ⊥))) c.self.view_is c.accept-accepted.ensures.clash

pub returns-clause-new : goal.returns-clause-new
returns-clause-new c =
    subst (λ (v : StampedState). OnOk c.accept-accepted.result ((HasEvent (came_by v.journal) c.args.event.id → ⊥) × (length (came_by v.journal) < MOST_EVENTS))) c.self.view_is c.accept-accepted.ensures.new
