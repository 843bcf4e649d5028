use Rattle.std.proofs.Common.{◌≤◌, ◌+◌, List, sym, subst}
use Rattle.std.specs.Prelude.{IfSome, IfNone}
use Rattle.std.proofs.lemmas.Option.{IfSome_then}
use Rattle.causal_base.specs.declared.entry.Entry.{Entry}
use Rattle.causal_base.specs.Clocks.{HasClock}
use Rattle.causal_base.specs.Clusters.{bound_of}
use Rattle.causal_base.specs.Journal.{delivered_by}
use Rattle.causal_base.specs.Past.{HasEvent}
use Rattle.event_book.specs.Stamping.{IsOwn, StampedState}
use Rattle.event_book.proofs.AsStamped.{its_journal, its_stamps}
use Rattle.event_book.proofs.Outcomes.{if_none_then}
use Rattle.event_book.proofs.stamped.StampedCausal.component.Goals as goal

pub returns-clause-some : goal.returns-clause-some
returns-clause-some g c =
    let s : StampedState = record { types = c.self.inside.delivery.types; journal = c.self.inside.delivery.journal; levels = c.self.inside.levels; stamps = c.self.inside.stamps; full = c.self.inside.full } in
    subst (λ (v : StampedState). IfSome c.component.result (λ n. (journal : List Entry) → IsOwn v.types v.journal journal → HasClock v.types (delivered_by journal) c.args.id c.args.trace n)) c.self.view_is
    (IfSome_then c.component.result c.component.ensures.some (λ n clock journal own.
    subst (λ (j : List Entry). HasClock s.types (delivered_by j) c.args.id c.args.trace n) (sym own.same) (clock (its_journal s c.self.invariant) (its_stamps s c.self.invariant))))

pub returns-clause-none : goal.returns-clause-none
returns-clause-none g c =
    let s : StampedState = record { types = c.self.inside.delivery.types; journal = c.self.inside.delivery.journal; levels = c.self.inside.levels; stamps = c.self.inside.stamps; full = c.self.inside.full } in
    subst (λ (v : StampedState). IfNone c.component.result ((journal : List Entry) → IsOwn v.types v.journal journal → HasEvent (delivered_by journal) c.args.id → ⊥)) c.self.view_is
    (if_none_then c.component.result c.component.ensures.none (λ none journal own.
    subst (λ (j : List Entry). HasEvent (delivered_by j) c.args.id → ⊥) (sym own.same) (none (its_journal s c.self.invariant) (its_stamps s c.self.invariant))))

pub returns-clause-steps : goal.returns-clause-steps
returns-clause-steps g c =
    let s : StampedState = record { types = c.self.inside.delivery.types; journal = c.self.inside.delivery.journal; levels = c.self.inside.levels; stamps = c.self.inside.stamps; full = c.self.inside.full } in
    subst (λ (v : StampedState). c.component.new.steps ≤ c.args.steps.now + bound_of v.levels.sizes) c.self.view_is
    (c.component.ensures.steps (its_journal s c.self.invariant) (its_stamps s c.self.invariant))
