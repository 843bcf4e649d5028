-- What a client may ask, and how a line of a script spells it.
use Rattle.std.specs.Prelude.{ℕ, ◌<◌, Bool, true, List, [], ◌∷◌, ◌++◌, ◌≡◌, codes, decimal}
use Rattle.std.specs.List.{AllByRecursion}
use Rattle.causal_base.specs.declared.event_id.EventId.{EventId}
use Rattle.causal_base.specs.Event.{IsInRange}
use Rattle.causal_base.specs.Spelling.{id_text}
use Rattle.causal_base.specs.Types.{TypeTable}
use Rattle.client_session.specs.declared.command.Command.{Command}
use Rattle.client_session.specs.declared.command.Command.TheVariants.{Before, Relation, Event, Stamp, GreatestBefore, LeastAfter, CutNone, CutAll, CutTo, CutBack, CutHas, Count, Await}

-- the ids that a command names, in its order
abbrev pub ids_of : Command → List EventId
ids_of (Before a b) = a ∷ b ∷ []
ids_of (Relation a b) = a ∷ b ∷ []
ids_of (Event a) = a ∷ []
ids_of (Stamp a) = a ∷ []
ids_of (GreatestBefore a trace) = a ∷ []
ids_of (LeastAfter a trace) = a ∷ []
ids_of CutNone = []
ids_of CutAll = []
ids_of (CutTo a) = a ∷ []
ids_of (CutBack a) = a ∷ []
ids_of (CutHas a) = a ∷ []
ids_of Count = []
ids_of (Await a) = a ∷ []

-- the traces that it names beside them
abbrev pub traces_of : Command → List ℕ
traces_of (GreatestBefore a trace) = trace ∷ []
traces_of (LeastAfter a trace) = trace ∷ []
traces_of command = []

-- a word, and an id behind it; and another id behind that, or a trace
abbrev pub with_id : List ℕ → EventId → List ℕ
with_id word a = word ++ codes " " ++ id_text a

abbrev pub with_ids : List ℕ → EventId → EventId → List ℕ
with_ids word a b = with_id word a ++ codes " " ++ id_text b

abbrev pub with_trace : List ℕ → EventId → ℕ → List ℕ
with_trace word a trace = with_id word a ++ codes " " ++ decimal trace

-- the one line of a command, without its end
abbrev pub command_text : Command → List ℕ
command_text (Before a b) = with_ids (codes "before") a b
command_text (Relation a b) = with_ids (codes "relation") a b
command_text (Event a) = with_id (codes "event") a
command_text (Stamp a) = with_id (codes "stamp") a
command_text (GreatestBefore a trace) = with_trace (codes "gp") a trace
command_text (LeastAfter a trace) = with_trace (codes "ls") a trace
command_text CutNone = codes "cut none"
command_text CutAll = codes "cut all"
command_text (CutTo a) = with_id (codes "cut to") a
command_text (CutBack a) = with_id (codes "cut back") a
command_text (CutHas a) = with_id (codes "cut has") a
command_text Count = codes "count"
command_text (Await a) = with_id (codes "await") a

-- the command asks for a stamp, which depends on the order of delivery
abbrev pub AsksForStamp : Command → Type 0
AsksForStamp (Stamp a) = Unit {0}
AsksForStamp command = ⊥

-- The command may stand in a script, closing or not: its ids and its trace are in range, and a
-- closing one asks for no stamp.
pub record MayStand (types : TypeTable) (closing : Bool) (command : Command) : Type 0 where
  pub in_range : AllByRecursion (IsInRange types) (ids_of command)
  pub is_trace : AllByRecursion (λ trace. trace < types.traces) (traces_of command)
  pub closing_too : closing ≡ true → AsksForStamp command → ⊥
