use Rattle.std.specs.Prelude.{ℕ, List, Contains}
use Rattle.causal_base.specs.declared.event.Event.{Event}
use Rattle.raw_reader.specs.declared.event_parts.EventParts.{EventParts}

-- the event that has these parts
abbrev pub event_from : EventParts → Event
event_from parts = record {
  id = parts.id;
  type_no = parts.type_no;
  mate = parts.mate;
  time
      = parts.time;
  text = parts.text.now;
}

-- the bytes have no line feed
abbrev pub IsOneLine : List ℕ → Type 0
IsOneLine bytes = Contains bytes 10 → ⊥
