use Rattle.std.proofs.Common.{subst}
use Rattle.causal_base.specs.Journal.{IsLegal}
use Rattle.causal_base.specs.Types.{TypeTable}
use Rattle.event_book.specs.Desks.{DeskState}
use Rattle.event_book.specs.Setups.{IsJournalOf}
use Rattle.event_book.proofs.desk.Desk.setup.Goals as goal

pub returns-clause-is_journal : goal.returns-clause-is_journal
returns-clause-is_journal c = subst (λ (v : DeskState). IsJournalOf v.setup v.journal) c.self.view_is (record {
  legal = subst (λ (t : TypeTable). IsLegal t c.self.inside.deliverer.journal) c.self.invariant.types_are c.stamped-stamped.ensures.stamped.legal;
  few = c.stamped-stamped.ensures.stamped.few;
  of_collectors = c.self.invariant.of_collectors;
})
