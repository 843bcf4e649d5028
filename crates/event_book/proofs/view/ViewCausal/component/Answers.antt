use Rattle.std.proofs.Common.{◌≤◌, ◌+◌, List, subst}
use Rattle.std.specs.Prelude.{IfSome, IfNone}
use Rattle.std.proofs.lemmas.Option.{IfSome_then}
use Rattle.causal_base.specs.declared.entry.Entry.{Entry}
use Rattle.causal_base.specs.Clocks.{HasClock}
use Rattle.causal_base.specs.Clusters.{bound_of}
use Rattle.causal_base.specs.Journal.{delivered_by}
use Rattle.causal_base.specs.Past.{HasEvent}
use Rattle.event_book.specs.Views.{IsViewOf, ViewState}
use Rattle.event_book.proofs.AsStamped.{viewed_journal, viewed_stamps}
use Rattle.event_book.proofs.Outcomes.{if_none_then}
use Rattle.event_book.proofs.view.ViewCausal.component.Goals as goal

pub returns-clause-some : goal.returns-clause-some
returns-clause-some g c =
    let v : ViewState = record { setup = c.self.inside.setup.value; delivered = c.self.inside.delivered; stamps = c.self.inside.stamps.lists; seen = c.self.inside.seen; accepted = c.self.inside.accepted; all_ended = c.self.inside.all_ended } in
    subst (λ (w : ViewState). IfSome c.component.result (λ n. (journal : List Entry) → IsViewOf w journal → HasClock w.setup.types (delivered_by journal) c.args.id c.args.trace n)) c.self.view_is
    (IfSome_then c.component.result c.component.ensures.some (λ n clock journal is. clock (viewed_journal v journal is) (viewed_stamps v journal is)))

pub returns-clause-none : goal.returns-clause-none
returns-clause-none g c =
    let v : ViewState = record { setup = c.self.inside.setup.value; delivered = c.self.inside.delivered; stamps = c.self.inside.stamps.lists; seen = c.self.inside.seen; accepted = c.self.inside.accepted; all_ended = c.self.inside.all_ended } in
    subst (λ (w : ViewState). IfNone c.component.result ((journal : List Entry) → IsViewOf w journal → HasEvent (delivered_by journal) c.args.id → ⊥)) c.self.view_is
    (if_none_then c.component.result c.component.ensures.none (λ none journal is. none (viewed_journal v journal is) (viewed_stamps v journal is)))

pub returns-clause-steps : goal.returns-clause-steps
returns-clause-steps g c =
    let v : ViewState = record { setup = c.self.inside.setup.value; delivered = c.self.inside.delivered; stamps = c.self.inside.stamps.lists; seen = c.self.inside.seen; accepted = c.self.inside.accepted; all_ended = c.self.inside.all_ended } in
    let seen = c.self.invariant in
    subst (λ (w : ViewState). c.component.new.steps ≤ c.args.steps.now + bound_of w.setup.sizes) c.self.view_is
    (c.component.ensures.steps (viewed_journal v seen.0 seen.1) (viewed_stamps v seen.0 seen.1))
