-- The sources of the collectors: opened before a run, and given back after it.
use Rattle.std.specs.Prelude.{◌≡◌, ℕ, List, [], ◌∷◌, ◌++◌, map, Option, None, Some, IfSome, nat_lt}
use Rattle.poet_io.specs.FilesState.{FilesState}
use Rattle.poet_io.specs.Folder.{Folder, IsOpenedAt}
use Rattle.poet_io.specs.GivenBack.{ClosedFile, AreGivenBack}
use Rattle.poet_io.specs.SourceState.{SourceState}
use Rattle.run_files.specs.Files.{WasNotOpened}
use Rattle.run_files.specs.Troubles.{Trouble, NotOpened, NotRead, TargetRefused, ScriptRefused, NoMemory}

-- the files of these names were opened, one source each, and none was read
abbrev pub AreOpenedAt : Option Folder → (names : List (List ℕ)) → List SourceState → Type 0
AreOpenedAt told [] [] = Unit {0}
AreOpenedAt told [] (source ∷ sources) = ⊥
AreOpenedAt told (name ∷ names) [] = ⊥
AreOpenedAt told (name ∷ names) (source ∷ sources) =
    (IfSome told (λ folder. IsOpenedAt folder name source) × (source.faults ≡ 0))
    × AreOpenedAt told names sources

-- An open file of a folder that tells what stands in it tells its name, and what is left of it,
-- which is an end of what stands there.
pub record IsOpenFile (folder : Folder) (source : SourceState) : Type 0 where
  pub name : List ℕ
  pub name_is : source.name ≡ Some name
  pub left : List ℕ
  pub left_is : source.left ≡ Some left
  pub read : List ℕ
  pub whole : folder name ≡ Some (read ++ left)

-- the same, where the folder tells
abbrev pub IsOpenIn : Option Folder → SourceState → Type 0
IsOpenIn told source = IfSome told (λ folder. IsOpenFile folder source)

-- what is told, or nothing
abbrev pub told_or_none : Option (List ℕ) → List ℕ
told_or_none None = []
told_or_none (Some told) = told

-- the file that a source is when it is given back: its name and what is left, as it tells them, and
-- whether a read of it had failed
abbrev pub file_of : SourceState → ClosedFile
file_of source = record {
  name = told_or_none source.name;
  left = told_or_none source.left;
  failed = nat_lt 0 source.faults;
}

-- sources were given back, in this order
abbrev pub WereGivenBack : List SourceState → FilesState → FilesState → Type 0
WereGivenBack sources before after = AreGivenBack (map file_of sources) before after

-- Opening the files of these names in their order came to an end before the last of them: one wasn't
-- opened, or there was no memory. Those before it are open.
abbrev pub IsStuck : (names : List (List ℕ)) → (before between : FilesState) → List SourceState
    → Trouble → Type 0
IsStuck names before between opened (NotOpened its) = (had : List (List ℕ))
    × (others : List (List ℕ)) × (names ≡ had ++ its ∷ others)
    × AreOpenedAt before.folder had opened × WasNotOpened its before between
IsStuck names before between opened (NotRead its) = ⊥
IsStuck names before between opened (TargetRefused error) = ⊥
IsStuck names before between opened (ScriptRefused asker error) = ⊥
IsStuck names before between opened NoMemory = (had : List (List ℕ)) × (others : List (List ℕ))
    × (names ≡ had ++ others) × AreOpenedAt before.folder had opened × (between ≡ before)

-- It did, and those that were open were given back.
abbrev pub LackSources : (names : List (List ℕ)) → FilesState → FilesState → Trouble → Type 0
LackSources names before after trouble = (between : FilesState) × (opened : List SourceState)
    × IsStuck names before between opened trouble × WereGivenBack opened between after
