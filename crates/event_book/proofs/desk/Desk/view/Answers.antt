use Rattle.std.proofs.Common.{◌≡◌, Bool, List, length, refl, sym, ◌∙◌, ap, subst}
use Rattle.std.specs.Prelude.{◌↔◌, IsTrue}
use Rattle.causal_base.specs.Journal.{came_by}
use Rattle.event_book.specs.Desks.{DeskState, IsDesk}
use Rattle.event_book.specs.Stamping.{IsStamped, StampedState}
use Rattle.causal_base.specs.Stamps.{ClusterTimestamp}
use Rattle.journal.specs.Delivered.{AreOfJournal}
use Rattle.event_book.specs.declared.setup.Setup.{Setup}
use Rattle.event_book.specs.Setups.{clustering_of, IsJournalOf, IsSetup}
use Rattle.event_book.specs.Stamping.{HasStamps, IsOwn}
use Rattle.event_book.specs.Views.{HaveAllEnded, IsViewOf, ViewState}
use Rattle.event_book.proofs.AsStamped.{has_desk}
use Rattle.event_book.proofs.desk.Desk.view.Goals as goal

-- What the parts of a desk say of its journal, they say of a view of it.
pub is_view : (setup : Setup) → (state : StampedState) → (ended : List Bool) → (desk : DeskState) → IsDesk setup state ended → IsStamped state → (let of_parts : DeskState = record { setup = setup; journal = state.journal } in of_parts) ≡ desk → IsJournalOf desk.setup desk.journal → (view : ViewState) → view.setup ≡ setup → AreOfJournal state.journal view.delivered → view.stamps ≡ state.stamps.lists → (IsOwn desk.setup.types desk.journal desk.journal → view.seen ≡ length desk.journal) → (IsOwn desk.setup.types desk.journal desk.journal → view.accepted ≡ length (came_by desk.journal)) → (IsOwn desk.setup.types desk.journal desk.journal → IsTrue view.all_ended ↔ HaveAllEnded desk.setup.collectors desk.journal) → IsViewOf view desk.journal
is_view setup state ended desk parts is view_is is_journal view made events stamps_are seen accepted all_ended =
    let own : IsOwn desk.setup.types desk.journal desk.journal = record { same = refl; legal = is_journal.legal } in
    let same : desk.setup ≡ view.setup = sym (ap (λ (v : DeskState). v.setup) view_is) ∙ sym made in
    record {
      is_setup = subst IsSetup (sym made) parts.is_setup;
      is_journal = subst (λ (s : Setup). IsJournalOf s desk.journal) same is_journal;
      events = subst (λ (v : DeskState). AreOfJournal v.journal view.delivered) view_is events;
      has_stamps = subst (λ (v : DeskState). HasStamps view.setup.types (clustering_of view.setup) v.journal view.stamps) view_is
          (subst (λ (s : Setup). HasStamps s.types (clustering_of s) state.journal view.stamps) (sym made)
          (subst (λ (l : List (List ClusterTimestamp)). HasStamps setup.types (clustering_of setup) state.journal l) (sym stamps_are) (has_desk setup state ended parts is)));
      seen_is = seen own;
      accepted_is = accepted own;
      ended_are = subst (λ (s : Setup). IsTrue view.all_ended ↔ HaveAllEnded s.collectors desk.journal) same (all_ended own);
    }

pub new-requires : goal.new-requires
new-requires c =
    (c.args.self.now.journal, is_view c.self.inside.setup.value c.self.inside.deliverer c.self.inside.ended c.args.self.now c.self.invariant c.stamped-stamped.ensures.stamped c.self.view_is c.setup-setup.ensures.is_journal _ c.in_ok-clone.ensures.cases c.in_ok-delivered.ensures.delivered c.in_ok-delivered.ensures.stamps (c.seen-seen.ensures c.args.self.now.journal) (c.accepted-accepted.ensures c.args.self.now.journal) (c.all_ended-all_ended.ensures c.args.self.now.journal))

pub returns-clause-view : goal.returns-clause-view
returns-clause-view c =
    subst (λ (v : ViewState). IsViewOf v c.args.self.now.journal) (sym c.new.ensures)
    (is_view c.self.inside.setup.value c.self.inside.deliverer c.self.inside.ended c.args.self.now c.self.invariant c.stamped-stamped.ensures.stamped c.self.view_is c.setup-setup.ensures.is_journal _ c.in_ok-clone.ensures.cases c.in_ok-delivered.ensures.delivered c.in_ok-delivered.ensures.stamps (c.seen-seen.ensures c.args.self.now.journal) (c.accepted-accepted.ensures c.args.self.now.journal) (c.all_ended-all_ended.ensures c.args.self.now.journal))
