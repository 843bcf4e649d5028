use Rattle.std.proofs.Common.{◌≡◌, List, sym, ◌∙◌, ap, subst, true, false}
use Rattle.std.specs.Prelude.{IfSome, IfNone}
use Rattle.std.proofs.lemmas.Option.{IfSome_then}
use Rattle.causal_base.specs.declared.entry.Entry.{Entry}
use Rattle.causal_base.specs.Clocks.{HasClock}
use Rattle.causal_base.specs.Journal.{delivered_by, deliveries_by}
use Rattle.causal_base.specs.Past.{HasEvent}
use Rattle.causal_base.specs.Stamps.{ClusterTimestamp, is_member}
use Rattle.precedence.specs.StampedJournal.{AreStampsOf}
use Rattle.projected_stamp.specs.StampLists.{StampLists}
use Rattle.event_book.specs.Desks.{DeskState}
use Rattle.event_book.specs.Setups.{clustering_of}
use Rattle.event_book.specs.Stamping.{IsOwn}
use Rattle.event_book.specs.Stamping.{StampedState}
use Rattle.event_book.proofs.AsStamped.{desk_journal, desk_stamps}
use Rattle.event_book.proofs.Outcomes.{if_none_then}
use Rattle.event_book.proofs.desk.DeskBook.stamp_part.Goals as goal

pub returns-clause-some : goal.returns-clause-some
returns-clause-some c =
    let setup = c.self.inside.setup.value in
    subst (λ (v : DeskState). IfSome c.part.result (λ n. (journal : List Entry) → IsOwn v.setup.types v.journal journal → HasClock v.setup.types (delivered_by journal) c.args.id c.args.trace n × (is_member (clustering_of v.setup) (deliveries_by journal) c.args.id c.args.trace ≡ true))) c.self.view_is
    (IfSome_then c.part.result c.part.ensures.some (λ n told journal own.
    subst (λ (j : List Entry). HasClock setup.types (delivered_by j) c.args.id c.args.trace n × (is_member (clustering_of setup) (deliveries_by j) c.args.id c.args.trace ≡ true)) (sym own.same)
    (told (desk_journal setup c.self.inside.deliverer c.self.inside.ended c.self.invariant c.stamped.ensures.stamped)
    (subst (λ (l : List (List ClusterTimestamp)). AreStampsOf (desk_journal c.self.inside.setup.value c.self.inside.deliverer c.self.inside.ended c.self.invariant c.stamped.ensures.stamped) l)
    (sym (ap (λ (st : StampLists). st.lists) c.stamps.ensures.stamps ∙ ap (λ (v : StampedState). v.stamps.lists) c.stamped.ensures.value)) (desk_stamps c.self.inside.setup.value c.self.inside.deliverer c.self.inside.ended c.self.invariant c.stamped.ensures.stamped)))))

pub returns-clause-none : goal.returns-clause-none
returns-clause-none c =
    let setup = c.self.inside.setup.value in
    subst (λ (v : DeskState). IfNone c.part.result ((journal : List Entry) → IsOwn v.setup.types v.journal journal → HasEvent (delivered_by journal) c.args.id → is_member (clustering_of v.setup) (deliveries_by journal) c.args.id c.args.trace ≡ false)) c.self.view_is
    (if_none_then c.part.result c.part.ensures.none (λ none journal own.
    subst (λ (j : List Entry). HasEvent (delivered_by j) c.args.id → is_member (clustering_of setup) (deliveries_by j) c.args.id c.args.trace ≡ false) (sym own.same)
    (none (desk_journal setup c.self.inside.deliverer c.self.inside.ended c.self.invariant c.stamped.ensures.stamped)
    (subst (λ (l : List (List ClusterTimestamp)). AreStampsOf (desk_journal c.self.inside.setup.value c.self.inside.deliverer c.self.inside.ended c.self.invariant c.stamped.ensures.stamped) l)
    (sym (ap (λ (st : StampLists). st.lists) c.stamps.ensures.stamps ∙ ap (λ (v : StampedState). v.stamps.lists) c.stamped.ensures.value)) (desk_stamps c.self.inside.setup.value c.self.inside.deliverer c.self.inside.ended c.self.invariant c.stamped.ensures.stamped)))))
