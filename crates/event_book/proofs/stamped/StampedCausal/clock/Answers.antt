use Rattle.std.proofs.Common.{◌≤◌, ◌+◌, List, sym, subst}
use Rattle.std.specs.Bool.{OnTrue, OnFalse}
use Rattle.causal_base.specs.declared.entry.Entry.{Entry}
use Rattle.causal_base.specs.Clocks.{HasClocks}
use Rattle.causal_base.specs.Clusters.{bound_of}
use Rattle.causal_base.specs.Journal.{delivered_by}
use Rattle.causal_base.specs.Past.{HasEvent}
use Rattle.event_book.specs.Stamping.{IsOwn, StampedState}
use Rattle.event_book.proofs.AsStamped.{its_journal, its_stamps}
use Rattle.event_book.proofs.Outcomes.{on_true_then, on_false_then}
use Rattle.event_book.proofs.stamped.StampedCausal.clock.Goals as goal

pub returns-clause-delivered : goal.returns-clause-delivered
returns-clause-delivered g c =
    let s : StampedState = record { types = c.self.inside.delivery.types; journal = c.self.inside.delivery.journal; levels = c.self.inside.levels; stamps = c.self.inside.stamps; full = c.self.inside.full } in
    subst (λ (v : StampedState). OnTrue c.clock.result ((journal : List Entry) → IsOwn v.types v.journal journal → HasClocks v.types (delivered_by journal) c.args.id c.clock.new.into)) c.self.view_is
    (on_true_then c.clock.result c.clock.ensures.delivered (λ clock journal own.
    subst (λ (j : List Entry). HasClocks s.types (delivered_by j) c.args.id c.clock.new.into) (sym own.same) (clock (its_journal s c.self.invariant) (its_stamps s c.self.invariant))))

pub returns-clause-absent : goal.returns-clause-absent
returns-clause-absent g c =
    let s : StampedState = record { types = c.self.inside.delivery.types; journal = c.self.inside.delivery.journal; levels = c.self.inside.levels; stamps = c.self.inside.stamps; full = c.self.inside.full } in
    subst (λ (v : StampedState). OnFalse c.clock.result ((journal : List Entry) → IsOwn v.types v.journal journal → HasEvent (delivered_by journal) c.args.id → ⊥)) c.self.view_is
    (on_false_then c.clock.result c.clock.ensures.absent (λ none journal own.
    subst (λ (j : List Entry). HasEvent (delivered_by j) c.args.id → ⊥) (sym own.same) (none (its_journal s c.self.invariant) (its_stamps s c.self.invariant))))

pub returns-clause-steps : goal.returns-clause-steps
returns-clause-steps g c =
    let s : StampedState = record { types = c.self.inside.delivery.types; journal = c.self.inside.delivery.journal; levels = c.self.inside.levels; stamps = c.self.inside.stamps; full = c.self.inside.full } in
    subst (λ (v : StampedState). c.clock.new.steps ≤ c.args.steps.now + bound_of v.levels.sizes) c.self.view_is
    (c.clock.ensures.steps (its_journal s c.self.invariant) (its_stamps s c.self.invariant))
