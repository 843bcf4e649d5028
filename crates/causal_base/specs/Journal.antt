use Rattle.std.specs.Prelude.{List, reverse}
use Rattle.causal_base.specs.declared.entry.Entry.{Entry}
use Rattle.causal_base.specs.declared.event.Event.{Event}
use Rattle.causal_base.specs.Types.{TypeTable}
use Rattle.causal_base.specs.History.{EventBlock}
use Rattle.causal_base.specs.Past.{came, deliveries, delivered, HasNoNext, IsLegalPast}

-- A journal is a list of entries, the oldest first.

-- each entry may stand after those before it
abbrev pub IsLegal : TypeTable → List Entry → Type 0
IsLegal types journal = IsLegalPast types (reverse journal)

-- nothing that came is left that could be delivered
abbrev pub IsSettled : TypeTable → List Entry → Type 0
IsSettled types journal = HasNoNext types (reverse journal)

-- the events that came, newest first
abbrev pub came_by : List Entry → List Event
came_by journal = came (reverse journal)

-- the events that were delivered, newest first
abbrev pub delivered_by : List Entry → List Event
delivered_by journal = delivered (reverse journal)

-- the deliveries, newest first
abbrev pub deliveries_by : List Entry → List EventBlock
deliveries_by journal = deliveries (reverse journal)
