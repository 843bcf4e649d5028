use Rattle.std.proofs.Common.{◌≡◌, List, sym, ◌∙◌, ap, subst}
use Rattle.std.specs.Prelude.{IfSome, IfNone}
use Rattle.std.proofs.lemmas.Option.{IfSome_then}
use Rattle.causal_base.specs.declared.entry.Entry.{Entry}
use Rattle.causal_base.specs.Journal.{delivered_by, deliveries_by}
use Rattle.causal_base.specs.Past.{HasEvent}
use Rattle.causal_base.specs.Stamps.{ClusterTimestamp, level_of}
use Rattle.precedence.specs.StampedJournal.{AreStampsOf}
use Rattle.projected_stamp.specs.StampLists.{StampLists}
use Rattle.event_book.specs.Desks.{DeskState}
use Rattle.event_book.specs.Setups.{clustering_of}
use Rattle.event_book.specs.Stamping.{IsOwn}
use Rattle.event_book.specs.Stamping.{StampedState}
use Rattle.event_book.proofs.AsStamped.{desk_journal, desk_stamps}
use Rattle.event_book.proofs.Outcomes.{if_none_then}
use Rattle.event_book.proofs.desk.DeskBook.stamp_level.Goals as goal

pub returns-clause-some : goal.returns-clause-some
returns-clause-some c =
    let setup = c.self.inside.setup.value in
    subst (λ (v : DeskState). IfSome c.level.result (λ level. (journal : List Entry) → IsOwn v.setup.types v.journal journal → HasEvent (delivered_by journal) c.args.id × (level ≡ level_of (clustering_of v.setup) (deliveries_by journal) c.args.id))) c.self.view_is
    (IfSome_then c.level.result c.level.ensures.some (λ n told journal own.
    subst (λ (j : List Entry). HasEvent (delivered_by j) c.args.id × (n ≡ level_of (clustering_of setup) (deliveries_by j) c.args.id)) (sym own.same)
    (told (desk_journal setup c.self.inside.deliverer c.self.inside.ended c.self.invariant c.stamped.ensures.stamped)
    (subst (λ (l : List (List ClusterTimestamp)). AreStampsOf (desk_journal c.self.inside.setup.value c.self.inside.deliverer c.self.inside.ended c.self.invariant c.stamped.ensures.stamped) l)
    (sym (ap (λ (st : StampLists). st.lists) c.stamps.ensures.stamps ∙ ap (λ (v : StampedState). v.stamps.lists) c.stamped.ensures.value)) (desk_stamps c.self.inside.setup.value c.self.inside.deliverer c.self.inside.ended c.self.invariant c.stamped.ensures.stamped)))))

pub returns-clause-none : goal.returns-clause-none
returns-clause-none c =
    subst (λ (v : DeskState). IfNone c.level.result ((journal : List Entry) → IsOwn v.setup.types v.journal journal → HasEvent (delivered_by journal) c.args.id → ⊥)) c.self.view_is
    (if_none_then c.level.result c.level.ensures.none (λ none journal own.
    subst (λ (j : List Entry). HasEvent (delivered_by j) c.args.id → ⊥) (sym own.same)
    (none (desk_journal c.self.inside.setup.value c.self.inside.deliverer c.self.inside.ended c.self.invariant c.stamped.ensures.stamped)
    (subst (λ (l : List (List ClusterTimestamp)). AreStampsOf (desk_journal c.self.inside.setup.value c.self.inside.deliverer c.self.inside.ended c.self.invariant c.stamped.ensures.stamped) l)
    (sym (ap (λ (st : StampLists). st.lists) c.stamps.ensures.stamps ∙ ap (λ (v : StampedState). v.stamps.lists) c.stamped.ensures.value)) (desk_stamps c.self.inside.setup.value c.self.inside.deliverer c.self.inside.ended c.self.invariant c.stamped.ensures.stamped)))))
