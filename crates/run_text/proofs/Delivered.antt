-- How many events are delivered.
use Rattle.std.proofs.Common.{◌≤◌, List, length}
use Rattle.std.specs.Prelude.{reverse}
use Rattle.causal_base.specs.declared.entry.Entry.{Entry}
use Rattle.causal_base.specs.Journal.{IsLegal, came_by, deliveries_by, delivered_by}
use Rattle.causal_base.specs.Types.{TypeTable}
use Rattle.causal_base.proofs.CallerLemmas.{history_of_past, length-delivered}

-- no more events are delivered than came
pub delivered_few : (types : TypeTable) (journal : List Entry) → IsLegal types journal → length (delivered_by journal) ≤ length (came_by journal)
delivered_few types journal legal = length-delivered types (came_by journal) (deliveries_by journal) (history_of_past types (reverse journal) legal)
