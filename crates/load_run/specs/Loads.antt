-- What a load tells.
use Rattle.std.specs.Prelude.{◌≡◌, ◌≤◌, ◌⊎◌, ◌↔◌, ℕ, Bool, true, false, List, [], ◌∷◌, ◌++◌, length, All, Contains, Option, None, Some}
use Rattle.causal_base.specs.declared.entry.Entry.{Entry}
use Rattle.causal_base.specs.declared.event.Event.{Event}
use Rattle.causal_base.specs.declared.limits.TheConstants.{MOST_EVENTS}
use Rattle.causal_base.specs.declared.event_id.EventId.{EventId}
use Rattle.causal_base.specs.Clocks.{HasCount}
use Rattle.causal_base.specs.Event.{IsFit}
use Rattle.causal_base.specs.InTurn.{IsInTurn}
use Rattle.causal_base.specs.Journal.{delivered_by}
use Rattle.causal_base.specs.Spelling.{spelling}
use Rattle.causal_base.specs.Types.{TypeTable, builtin_types}
use Rattle.causal_base.specs.Walks.{IsBefore}
use Rattle.event_book.specs.declared.setup.Setup.{Setup}
use Rattle.event_book.specs.Setups.{clustering_of}
use Rattle.event_book.specs.Stamping.{full_by, parts_by}
use Rattle.poet_serve.specs.declared.report.Stop.{Stop}
use Rattle.poet_serve.specs.declared.report.Stop.TheVariants.{Memory}
use Rattle.load_run.specs.declared.limits.TheConstants.{COLLECTORS, START, TRACES}
use Rattle.load_run.specs.declared.loaded.Loaded.{Loaded}
use Rattle.load_run.specs.LoadTexts.{shares}
use Rattle.workload.specs.Workload.{workload}

-- how the desk of a load is set up: the built-in types, and levels of 8 and of 32 traces
abbrev pub load_setup : Setup
load_setup = record {
  types = builtin_types TRACES;
  sizes = 8 ∷ 32 ∷ [];
  collectors = COLLECTORS;
  after = 1;
}

-- the list of events of a load
abbrev pub load_events : ℕ → List Event
load_events n = workload n START TRACES

-- The events of a list are fit, no more than may come, and each is spelled in a short line.
pub record IsLoadable (types : TypeTable) (events : List Event) : Type 0 where
  pub few : length events ≤ MOST_EVENTS
  pub fit : All (IsFit types) events
  pub short : All (λ e. length (spelling types e) ≤ 31) events

-- the id is that of the last event of a list, and there is none where the list is empty
abbrev pub EndsWith : List Event → Option EventId → Type 0
EndsWith events None = events ≡ []
EndsWith events (Some id) = (first : List Event) × (last : Event)
    × (events ≡ first ++ last ∷ []) × (last.id ≡ id)

-- whether a collector stopped for want of memory
abbrev pub is_memory : Stop → Bool
is_memory Memory = true
is_memory stop = false

-- so many of the delivered events are before the last event of a list; none where the list is empty
abbrev pub IsPastOfLast : TypeTable → (delivered events : List Event) → ℕ → Type 0
IsPastOfLast types delivered events past =
    ((events ≡ []) × (past ≡ 0))
    ⊎ ((first : List Event) × (last : Event) × (events ≡ first ++ last ∷ [])
    × HasCount (λ x. IsBefore types delivered x last) delivered past)

-- What a load tells is told of the journal that one thread makes of the collectors' events, in turn,
-- in which all events of the list are delivered: how many entries it has, how many numbers its
-- stamps have, how many events have the level above those that have a size, and how many are before
-- the last event of the list.
pub record IsLoaded (told : Loaded) : Type 0 where
  pub journal : List Entry
  pub in_turn : IsInTurn load_setup.types MOST_EVENTS (shares (load_events told.events)) journal
  pub whole : (e : Event) → Contains (delivered_by journal) e
      ↔ Contains (load_events told.events) e
  pub entries : told.entries ≡ length journal
  pub parts : told.parts ≡ parts_by (clustering_of load_setup) journal
  pub full : told.full ≡ full_by (clustering_of load_setup) journal
  pub past : IsPastOfLast load_setup.types (delivered_by journal) (load_events told.events)
      told.past
