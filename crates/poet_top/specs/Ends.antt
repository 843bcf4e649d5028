use Rattle.std.specs.Prelude.{◌≡◌, ◌⊎◌, ℕ, List, [], None, IsSomeAnd}
use Rattle.causal_base.specs.declared.event_id.EventId.{EventId}
use Rattle.command_line.specs.Plans.{Asked, Ask, Replay, Load, IsPlan}
use Rattle.load_run.specs.declared.loaded.Loaded.{Loaded}
use Rattle.load_run.specs.Loads.{IsLoaded}
use Rattle.poet_io.specs.FilesState.{FilesState}
use Rattle.poet_io.specs.GivenBack.{IsGivenBack, HasFailedToRead, HasFailedToOpen}
use Rattle.poet_top.specs.Ask.{asked_types, IsAnswerOver, HasBadLine, HasManyIds, IsUndecidedUpTo, IsReadNoFurther}
use Rattle.poet_top.specs.Outcome.{Outcome, Answered, NoPlan, NotOpened, NotRead, BadLine, NoMemory, ManyIds, NotBegun, Ran, HasLoaded}
use Rattle.poet_top.specs.Replay.{EndsReplay}
use Rattle.run_files.specs.Files.{TellsOf}

-- When a question over the file of this name ends with each outcome, and what became of the file.
-- Want of memory alone has no cause that is told.
abbrev pub EndsOver : List ℕ → EventId → EventId → FilesState → FilesState → Outcome → Type 0
EndsOver name a b before after (Answered answer) =
    IsGivenBack name [] before after
    × TellsOf before name (λ bytes. IsAnswerOver asked_types bytes a b answer)
EndsOver name a b before after NoPlan = ⊥
EndsOver name a b before after (NotOpened its) = (its ≡ name)
    × (HasFailedToOpen name before after
    ⊎ ((after ≡ before) × IsSomeAnd before.folder (λ folder. folder name ≡ None)))
EndsOver name a b before after (NotRead its) = (its ≡ name)
    × ((left : List ℕ) × HasFailedToRead name left before after
    × TellsOf before name (λ bytes. IsUndecidedUpTo asked_types bytes left))
EndsOver name a b before after (BadLine error) =
    (left : List ℕ) × IsGivenBack name left before after
    × TellsOf before name (λ bytes.
    HasBadLine asked_types bytes error × IsReadNoFurther asked_types bytes left)
EndsOver name a b before after NoMemory = (after ≡ before)
    ⊎ ((left : List ℕ) × IsGivenBack name left before after)
EndsOver name a b before after ManyIds =
    (left : List ℕ) × IsGivenBack name left before after
    × TellsOf before name (λ bytes.
    HasManyIds asked_types bytes × IsReadNoFurther asked_types bytes left)
EndsOver name a b before after (NotBegun trouble) = ⊥
EndsOver name a b before after (Ran told) = ⊥
EndsOver name a b before after (HasLoaded told) = ⊥

-- How a load of so many events ends: with what came of it, or for want of memory. No file is
-- touched.
abbrev pub EndsLoad : ℕ → FilesState → FilesState → Outcome → Type 0
EndsLoad events before after outcome = (after ≡ before)
    × ((outcome ≡ NoMemory)
    ⊎ ((told : Loaded) × IsLoaded told × (told.events ≡ events) × (outcome ≡ HasLoaded told)))

-- when what was asked for ends with an outcome, and what it leaves in the folder
abbrev pub EndsAsked : Asked → FilesState → FilesState → Outcome → Type 0
EndsAsked (Ask name a b) before after outcome = EndsOver name a b before after outcome
EndsAsked (Replay asked) before after outcome = EndsReplay asked before after outcome
EndsAsked (Load events) before after outcome = EndsLoad events before after outcome

-- When the program ends with an outcome, and what it leaves in the folder: its words ask for
-- nothing, and nothing is touched; or what they ask for ends so.
abbrev pub Ends : List (List ℕ) → FilesState → FilesState → Outcome → Type 0
Ends words before after outcome =
    (((asked : Asked) → IsPlan words asked → ⊥) × (outcome ≡ NoPlan) × (after ≡ before))
    ⊎ ((asked : Asked) × IsPlan words asked × EndsAsked asked before after outcome)
