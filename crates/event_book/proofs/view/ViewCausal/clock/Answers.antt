use Rattle.std.proofs.Common.{◌≤◌, ◌+◌, List, subst}
use Rattle.std.specs.Bool.{OnTrue, OnFalse}
use Rattle.causal_base.specs.declared.entry.Entry.{Entry}
use Rattle.causal_base.specs.Clocks.{HasClocks}
use Rattle.causal_base.specs.Clusters.{bound_of}
use Rattle.causal_base.specs.Journal.{delivered_by}
use Rattle.causal_base.specs.Past.{HasEvent}
use Rattle.event_book.specs.Views.{IsViewOf, ViewState}
use Rattle.event_book.proofs.AsStamped.{viewed_journal, viewed_stamps}
use Rattle.event_book.proofs.Outcomes.{on_true_then, on_false_then}
use Rattle.event_book.proofs.view.ViewCausal.clock.Goals as goal

pub returns-clause-delivered : goal.returns-clause-delivered
returns-clause-delivered g c =
    let v : ViewState = record { setup = c.self.inside.setup.value; delivered = c.self.inside.delivered; stamps = c.self.inside.stamps.lists; seen = c.self.inside.seen; accepted = c.self.inside.accepted; all_ended = c.self.inside.all_ended } in
    subst (λ (w : ViewState). OnTrue c.clock.result ((journal : List Entry) → IsViewOf w journal → HasClocks w.setup.types (delivered_by journal) c.args.id c.clock.new.into)) c.self.view_is
    (on_true_then c.clock.result c.clock.ensures.delivered (λ clock journal is. clock (viewed_journal v journal is) (viewed_stamps v journal is)))

pub returns-clause-absent : goal.returns-clause-absent
returns-clause-absent g c =
    let v : ViewState = record { setup = c.self.inside.setup.value; delivered = c.self.inside.delivered; stamps = c.self.inside.stamps.lists; seen = c.self.inside.seen; accepted = c.self.inside.accepted; all_ended = c.self.inside.all_ended } in
    subst (λ (w : ViewState). OnFalse c.clock.result ((journal : List Entry) → IsViewOf w journal → HasEvent (delivered_by journal) c.args.id → ⊥)) c.self.view_is
    (on_false_then c.clock.result c.clock.ensures.absent (λ none journal is. none (viewed_journal v journal is) (viewed_stamps v journal is)))

pub returns-clause-steps : goal.returns-clause-steps
returns-clause-steps g c =
    let v : ViewState = record { setup = c.self.inside.setup.value; delivered = c.self.inside.delivered; stamps = c.self.inside.stamps.lists; seen = c.self.inside.seen; accepted = c.self.inside.accepted; all_ended = c.self.inside.all_ended } in
    let seen = c.self.invariant in
    subst (λ (w : ViewState). c.clock.new.steps ≤ c.args.steps.now + bound_of w.setup.sizes) c.self.view_is
    (c.clock.ensures.steps (viewed_journal v seen.0 seen.1) (viewed_stamps v seen.0 seen.1))
