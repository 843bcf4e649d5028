-- The texts of a load: those of its collectors, and the one that tells what came of it.
use Rattle.std.specs.Prelude.{ℕ, ◌==◌, ◌%◌, List, [], ◌∷◌, ◌++◌, filter, codes, decimal, Some, None}
use Rattle.std.specs.List.{flat_map}
use Rattle.causal_base.specs.declared.event.Event.{Event}
use Rattle.causal_base.specs.Spelling.{spelling}
use Rattle.causal_base.specs.Types.{TypeTable}
use Rattle.poet_io.specs.SourceState.{SourceState}
use Rattle.load_run.specs.declared.limits.TheConstants.{COLLECTORS}
use Rattle.load_run.specs.declared.loaded.Loaded.{Loaded}

-- the events of a collector: those whose trace leaves its number on division by three
abbrev pub share : List Event → ℕ → List Event
share events collector = filter (λ e. e.id.trace % COLLECTORS == collector) events

-- the events of the collectors, one list each
abbrev pub shares : List Event → List (List Event)
shares events = share events 0 ∷ share events 1 ∷ share events 2 ∷ []

-- the line of an event, with its end
abbrev pub line_of : TypeTable → Event → List ℕ
line_of types e = spelling types e ++ 10 ∷ []

-- a line for each event
abbrev pub lines_of : TypeTable → List Event → List ℕ
lines_of types events = flat_map (line_of types) events

-- what is told of a source in memory whose reads never fail, of which these bytes are left
abbrev pub never_failing : List ℕ → SourceState
never_failing left = record { faults = 0; left = Some left; name = None }

-- a word, and a number behind it
abbrev pub with_count : List ℕ → ℕ → List ℕ
with_count word number = word ++ decimal number

-- the lines that tell what came of a load
abbrev pub text_of_load : Loaded → List ℕ
text_of_load told = with_count (codes "load ") told.events
    ++ (with_count (codes "\njournal ") told.entries
    ++ (with_count (codes "\nparts ") told.parts
    ++ (with_count (codes "\nfull ") told.full
    ++ (with_count (codes "\npast ") told.past
    ++ codes "\nstatus 0\n"))))
