use Rattle.std.specs.Prelude.{Bool}
use Rattle.std.specs.Option.{is_some}
use Rattle.causal_base.specs.declared.event.Event.{Event}

-- whether an event names another
abbrev pub names_another : Event → Bool
names_another e = is_some e.mate
