use Rattle.std.proofs.Common.{◌≡◌, List, subst}
use Rattle.std.specs.Prelude.{IfSome, IfNone}
use Rattle.std.proofs.lemmas.Option.{IfSome_then}
use Rattle.causal_base.specs.declared.entry.Entry.{Entry}
use Rattle.causal_base.specs.Journal.{delivered_by, deliveries_by}
use Rattle.causal_base.specs.Past.{HasEvent}
use Rattle.event_book.specs.Views.{IsViewOf, ViewState}
use Rattle.event_book.proofs.AsStamped.{viewed_journal, viewed_stamps}
use Rattle.event_book.proofs.Outcomes.{if_none_then}
use Rattle.causal_base.specs.Stamps.{level_of}
use Rattle.event_book.specs.Setups.{clustering_of}
use Rattle.event_book.proofs.view.ViewBook.stamp_level.Goals as goal

pub returns-clause-some : goal.returns-clause-some
returns-clause-some c =
    let v : ViewState = record { setup = c.self.inside.setup.value; delivered = c.self.inside.delivered; stamps = c.self.inside.stamps.lists; seen = c.self.inside.seen; accepted = c.self.inside.accepted; all_ended = c.self.inside.all_ended } in
    subst (λ (w : ViewState). IfSome c.level.result (λ level. (journal : List Entry) → IsViewOf w journal → HasEvent (delivered_by journal) c.args.id × (level ≡ level_of (clustering_of w.setup) (deliveries_by journal) c.args.id))) c.self.view_is
    (IfSome_then c.level.result c.level.ensures.some (λ n told journal is. told (viewed_journal v journal is) (viewed_stamps v journal is)))

pub returns-clause-none : goal.returns-clause-none
returns-clause-none c =
    let v : ViewState = record { setup = c.self.inside.setup.value; delivered = c.self.inside.delivered; stamps = c.self.inside.stamps.lists; seen = c.self.inside.seen; accepted = c.self.inside.accepted; all_ended = c.self.inside.all_ended } in
    subst (λ (w : ViewState). IfNone c.level.result ((journal : List Entry) → IsViewOf w journal → HasEvent (delivered_by journal) c.args.id → ⊥)) c.self.view_is
    (if_none_then c.level.result c.level.ensures.none (λ none journal is. none (viewed_journal v journal is) (viewed_stamps v journal is)))
