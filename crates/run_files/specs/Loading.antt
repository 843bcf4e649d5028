-- What the files of a target and of scripts say, or what is wrong with the first of them that
-- fails.
use Rattle.std.specs.Prelude.{◌≡◌, ◌⊎◌, ℕ, suc, Bool, true, false, List, [], ◌∷◌, Option, None, Some}
use Rattle.causal_base.specs.Types.{TypeTable}
use Rattle.client_session.specs.declared.command.Command.{Command}
use Rattle.client_session.specs.Scripts.{IsScript, IsRefused}
use Rattle.poet_io.specs.FilesState.{FilesState}
use Rattle.target_desc.specs.Reading.{IsReadAs, IsRefusedWith}
use Rattle.target_desc.specs.Target.{TargetState}
use Rattle.run_files.specs.declared.fault.Asker.{Asker}
use Rattle.run_files.specs.declared.fault.Asker.TheVariants.{Client, Closing}
use Rattle.run_files.specs.Files.{ReadOfItFailed, WasGivenBack, WasNoMemoryFor, WasNotOpened, WasRead}
use Rattle.run_files.specs.Troubles.{Trouble, NotOpened, NotRead, TargetRefused, ScriptRefused, NoMemory}

-- the file of this name was read, and says this target
abbrev pub SaysTarget : (name : List ℕ) → FilesState → FilesState → TargetState → Type 0
SaysTarget name before after target =
    (bytes : List ℕ) × WasRead name before after bytes × IsReadAs bytes target

-- the file of this name gave no target, by what went wrong
abbrev pub LacksTarget : (name : List ℕ) → FilesState → FilesState → Trouble → Type 0
LacksTarget name before after (NotOpened its) = (its ≡ name) × WasNotOpened name before after
LacksTarget name before after (NotRead its) = (its ≡ name) × ReadOfItFailed name before after
LacksTarget name before after (TargetRefused error) =
    WasGivenBack name before after (λ bytes. IsRefusedWith bytes error)
LacksTarget name before after (ScriptRefused asker error) = ⊥
LacksTarget name before after NoMemory = WasNoMemoryFor name before after

-- whether a script is the closing one
abbrev pub is_closing : Asker → Bool
is_closing (Client number) = false
is_closing Closing = true

-- the file of this name was read, and says this script
abbrev pub SaysScript : TypeTable → Asker → (name : List ℕ) → FilesState → FilesState
    → List Command → Type 0
SaysScript types asker name before after script =
    (bytes : List ℕ) × WasRead name before after bytes × IsScript types (is_closing asker) bytes script

-- the file of this name gave no script, by what went wrong
abbrev pub LacksScript : TypeTable → Asker → (name : List ℕ) → FilesState → FilesState → Trouble
    → Type 0
LacksScript types asker name before after (NotOpened its) =
    (its ≡ name) × WasNotOpened name before after
LacksScript types asker name before after (NotRead its) =
    (its ≡ name) × ReadOfItFailed name before after
LacksScript types asker name before after (TargetRefused error) = ⊥
LacksScript types asker name before after (ScriptRefused its error) = (its ≡ asker)
    × WasGivenBack name before after (λ bytes. IsRefused types (is_closing asker) bytes error)
LacksScript types asker name before after NoMemory = WasNoMemoryFor name before after

-- the files of these names were read one after another, and say the scripts of the clients from
-- this number on
abbrev pub SayScripts : TypeTable → ℕ → (names : List (List ℕ)) → FilesState → FilesState
    → List (List Command) → Type 0
SayScripts types number [] before after [] = after ≡ before
SayScripts types number [] before after (script ∷ scripts) = ⊥
SayScripts types number (name ∷ names) before after [] = ⊥
SayScripts types number (name ∷ names) before after (script ∷ scripts) = (between : FilesState)
    × SaysScript types (Client number) name before between script
    × SayScripts types (suc number) names between after scripts

-- one of these files gave no script, and those before it did
abbrev pub LackScripts : TypeTable → ℕ → (names : List (List ℕ)) → FilesState → FilesState
    → Trouble → Type 0
LackScripts types number [] before after trouble = ⊥
LackScripts types number (name ∷ names) before after trouble =
    LacksScript types (Client number) name before after trouble
    ⊎ ((between : FilesState) × (script : List Command)
    × SaysScript types (Client number) name before between script
    × LackScripts types (suc number) names between after trouble)

-- the closing script, which is empty where none is named
abbrev pub SaysClosing : TypeTable → Option (List ℕ) → FilesState → FilesState → List Command
    → Type 0
SaysClosing types None before after script = (after ≡ before) × (script ≡ [])
SaysClosing types (Some name) before after script =
    SaysScript types Closing name before after script

-- the file that is named for it gave no script
abbrev pub LacksClosing : TypeTable → Option (List ℕ) → FilesState → FilesState → Trouble → Type 0
LacksClosing types None before after trouble = ⊥
LacksClosing types (Some name) before after trouble =
    LacksScript types Closing name before after trouble
