-- Which entries may be appended to a journal.
use Rattle.std.specs.Prelude.{◌<◌, ◌≤◌, List, [], ◌∷◌, ◌++◌, length}
use Rattle.causal_base.specs.declared.entry.Entry.{Entry}
use Rattle.causal_base.specs.declared.entry.Entry.TheVariants.{Came, Gone, Pair, Ended}
use Rattle.causal_base.specs.declared.limits.TheConstants.{MOST_EVENTS}
use Rattle.causal_base.specs.Event.{IsFit}
use Rattle.causal_base.specs.Journal.{IsLegal, came_by}
use Rattle.causal_base.specs.Types.{TypeTable}
use Rattle.event_book.specs.declared.setup.Setup.{Setup}

-- its collector is one of the desk's, and its event is fit
abbrev pub IsAppendable : Setup → Entry → Type 0
IsAppendable setup (Came collector e) = (collector < setup.collectors) × IsFit setup.types e
IsAppendable setup (Gone a) = Unit {0}
IsAppendable setup (Pair a b) = Unit {0}
IsAppendable setup (Ended collector) = collector < setup.collectors

-- The journal is legal with the entry, and no more events came than may.
pub record MayAppend (types : TypeTable) (journal : List Entry) (entry : Entry) : Type 0 where
  pub legal : IsLegal types (journal ++ entry ∷ [])
  pub few : length (came_by (journal ++ entry ∷ [])) ≤ MOST_EVENTS
