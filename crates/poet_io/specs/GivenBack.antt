-- What became of files of a folder, and what that made of the folder.
use Rattle.std.specs.Prelude.{◌≡◌, Bool, true, false, ℕ, List, [], ◌∷◌, ◌++◌, map, Option, None, Some, IfSome, IsSomeAnd, MatchBool}
use Rattle.std.specs.List.{AllByRecursion, list_any}
use Rattle.poet_io.specs.declared.files.OpenError.{OpenError}
use Rattle.poet_io.specs.declared.files.OpenError.TheVariants.{Absent, Failed, Oom}
use Rattle.poet_io.specs.declared.uses.Use.{Use}
use Rattle.poet_io.specs.declared.uses.Use.TheVariants.{Refused, Closed}
use Rattle.poet_io.specs.Faults.{IsRaised}
use Rattle.poet_io.specs.FilesState.{FilesState}
use Rattle.poet_io.specs.Folder.{Folder}
use Rattle.poet_io.specs.Uses.{Gains, GainsAll}

-- a file that was given back: its name, what was left of it, and whether a read of it had failed
pub record ClosedFile : Type 0 where
  pub name : List ℕ
  pub left : List ℕ
  pub failed : Bool

-- what is noted of it
abbrev pub use_of : ClosedFile → Use
use_of file = Closed file.name file.left file.failed

-- what was left of it is an end of what stands under its name, where the folder tells that
abbrev pub LeftAnEnd : Option Folder → ClosedFile → Type 0
LeftAnEnd told file = IfSome told
    (λ folder. (prefix : List ℕ) × (folder file.name ≡ Some (prefix ++ file.left)))

-- These files were opened, read and given back, in this order. The count of faults rose where one
-- of them had failed, and else stayed.
pub record AreGivenBack (files : List ClosedFile) (before after : FilesState) : Type 0 where
  pub same_folder : after.folder ≡ before.folder
  pub ends : AllByRecursion (LeftAnEnd before.folder) files
  pub noted : GainsAll before.uses after.uses (map use_of files)
  pub faults : MatchBool (list_any (λ file. file.failed) files)
      (IsRaised before.faults after.faults) (after.faults ≡ before.faults)

-- The file of this name was opened, read and given back without a fault, with this left of it.
abbrev pub IsGivenBack : (name left : List ℕ) → FilesState → FilesState → Type 0
IsGivenBack name left before after =
    AreGivenBack (record { name = name; left = left; failed = false } ∷ []) before after

-- The file of this name was opened, a read of it failed, and it was given back with this left of
-- it.
abbrev pub HasFailedToRead : (name left : List ℕ) → FilesState → FilesState → Type 0
HasFailedToRead name left before after =
    AreGivenBack (record { name = name; left = left; failed = true } ∷ []) before after

-- The file of this name failed to open.
pub record HasFailedToOpen (name : List ℕ) (before after : FilesState) : Type 0 where
  pub same_folder : after.folder ≡ before.folder
  pub fault : IsRaised before.faults after.faults
  pub noted : Gains before.uses after.uses (Refused name)

-- What a refusal to open the file of this name leaves: nothing stands under it, and all is as
-- before; or it failed; or there was no memory, and all is as before.
abbrev pub IsNotOpened : OpenError → List ℕ → FilesState → FilesState → Type 0
IsNotOpened Absent name before after = (after ≡ before)
    × IsSomeAnd before.folder (λ folder. folder name ≡ None)
IsNotOpened Failed name before after = HasFailedToOpen name before after
IsNotOpened Oom name before after = after ≡ before
