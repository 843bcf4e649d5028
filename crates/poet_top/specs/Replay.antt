-- How a replay ends: with the text of a run on one thread, or with what kept it from beginning.
use Rattle.std.specs.Prelude.{◌≡◌, ◌⊎◌, List, length, map}
use Rattle.std.specs.List.{AllByRecursion}
use Rattle.client_session.specs.declared.command.Command.{Command}
use Rattle.command_line.specs.Plans.{ReplayAsked}
use Rattle.event_book.specs.declared.setup.Setup.{Setup}
use Rattle.poet_io.specs.FilesState.{FilesState}
use Rattle.poet_io.specs.SourceState.{SourceState}
use Rattle.poet_serve.specs.Transcripts.{AreToldFrom, Collected, HadMemory, IsMadeInTurn, IsTranscript, seen_by}
use Rattle.run_files.specs.Loading.{LackScripts, LacksClosing, LacksTarget, SayScripts, SaysClosing, SaysTarget}
use Rattle.run_files.specs.Sources.{AreOpenedAt, LackSources, WereGivenBack}
use Rattle.run_files.specs.Troubles.{Trouble, NoMemory}
use Rattle.run_text.specs.Runs.{RunTold}
use Rattle.target_desc.specs.Target.{TargetState}
use Rattle.poet_top.specs.Outcome.{Outcome, NotBegun, Ran}

-- how the desk of a replay is set up
abbrev pub setup_of : ReplayAsked → TargetState → Setup
setup_of asked target = record {
  types = target.types;
  sizes = asked.sizes;
  collectors = length asked.events;
  after = asked.after;
}

-- What is told is that of a run over the named files of events: each was opened, with a source for
-- its collector, and given back in its order at the end; what was left is a transcript of the
-- sources and the scripts; the clients were asked when all was read; and where no collector stopped
-- for want of memory, the journal is the one that one thread makes of the events that were read, in
-- turn.
pub record IsRun (asked : ReplayAsked) (target : TargetState) (scripts : List (List Command))
    (last : List Command) (before after : FilesState) (told : RunTold) : Type 0 where
  pub setup_is : told.setup ≡ setup_of asked target
  pub scripts_are : told.scripts ≡ scripts
  pub last_is : told.last ≡ last
  pub collected : List Collected
  pub collectors_are : told.collectors ≡ map (λ one. one.told) collected
  pub opened : AreOpenedAt before.folder asked.events (map (λ one. one.before) collected)
  pub transcript : IsTranscript told.setup told.journal collected scripts told.clients last
      told.closing
  pub clients_whole : AreToldFrom (seen_by told.setup told.journal) (length told.journal) scripts
      told.clients
  pub in_turn : AllByRecursion HadMemory collected
      → IsMadeInTurn target.types collected told.journal
  pub given_back : WereGivenBack (map (λ one. one.after) collected) before after

-- it ends before the run, with this trouble
abbrev pub IsNotBegun : Outcome → (Trouble → Type 0) → Type 0
IsNotBegun outcome Comes = (trouble : Trouble) × Comes trouble × (outcome ≡ NotBegun trouble)

-- all sources were opened, and then there was no memory for the run: they were given back unread
abbrev pub LacksMemory : ReplayAsked → FilesState → FilesState → Trouble → Type 0
LacksMemory asked before after trouble = (opened : List SourceState)
    × AreOpenedAt before.folder asked.events opened × WereGivenBack opened before after
    × (trouble ≡ NoMemory)

-- how it ends once the target and the scripts are read
abbrev pub EndsAtRun : ReplayAsked → TargetState → List (List Command) → List Command
    → FilesState → FilesState → Outcome → Type 0
EndsAtRun asked target scripts last before after outcome =
    IsNotBegun outcome (λ trouble. LackSources asked.events before after trouble
    ⊎ LacksMemory asked before after trouble)
    ⊎ ((told : RunTold) × IsRun asked target scripts last before after told
    × (outcome ≡ Ran told))

-- how it ends once the target and the scripts of the clients are read
abbrev pub EndsAtClosing : ReplayAsked → TargetState → List (List Command) → FilesState
    → FilesState → Outcome → Type 0
EndsAtClosing asked target scripts before after outcome =
    IsNotBegun outcome (LacksClosing target.types asked.closing before after)
    ⊎ ((between : FilesState) × (last : List Command)
    × SaysClosing target.types asked.closing before between last
    × EndsAtRun asked target scripts last between after outcome)

-- how it ends once the target is read
abbrev pub EndsAtScripts : ReplayAsked → TargetState → FilesState → FilesState → Outcome → Type 0
EndsAtScripts asked target before after outcome =
    IsNotBegun outcome (LackScripts target.types 0 asked.clients before after)
    ⊎ ((between : FilesState) × (scripts : List (List Command))
    × SayScripts target.types 0 asked.clients before between scripts
    × EndsAtClosing asked target scripts between after outcome)

-- How a replay ends. Its files are read in their order: the target, the scripts of the clients, the
-- closing script; then the files of events are opened. The first of these that fails ends it.
abbrev pub EndsReplay : ReplayAsked → FilesState → FilesState → Outcome → Type 0
EndsReplay asked before after outcome =
    IsNotBegun outcome (LacksTarget asked.target before after)
    ⊎ ((between : FilesState) × (target : TargetState)
    × SaysTarget asked.target before between target
    × EndsAtScripts asked target between after outcome)
