use Rattle.std.specs.Prelude.{◌+◌, ◌≤◌, List, length, reverse}
use Rattle.causal_base.specs.declared.entry.Entry.{Entry}
use Rattle.causal_base.specs.declared.limits.TheConstants.{MOST_PLAIN_EVENTS}
use Rattle.causal_base.specs.Types.{TypeTable}
use Rattle.causal_base.specs.TypeTables.{IsTypeTable}
use Rattle.causal_base.specs.Past.{came, delivered, HasEnded}
use Rattle.causal_base.specs.Journal.{IsLegal}

-- a journal, and the types of its events
pub record TypedJournal : Type 0 where
  pub types : TypeTable
  pub journal : List Entry

-- What holds of a plain list's journal at each moment: it is legal, its one collector hasn't ended,
-- and each entry is of an event that came, or of one or two that were delivered.
pub record IsOpenJournal (types : TypeTable) (journal : List Entry) : Type 0 where
  pub table : IsTypeTable types
  pub legal : IsLegal types journal
  pub open_yet : HasEnded (reverse journal) 0 → ⊥
  pub balance : length journal ≤ length (came (reverse journal)) + length
      (delivered (reverse journal))
  pub few : length (came (reverse journal)) ≤ MOST_PLAIN_EVENTS
