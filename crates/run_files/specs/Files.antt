-- What a file of a folder gives that is read whole.
use Rattle.std.specs.Prelude.{◌≡◌, ◌<◌, ◌⊎◌, ℕ, List, [], length, None, Some, IfSome, IsSomeAnd}
use Rattle.poet_io.specs.FilesState.{FilesState}
use Rattle.poet_io.specs.GivenBack.{IsGivenBack, HasFailedToRead, HasFailedToOpen}
use Rattle.poet_io.specs.declared.files.OpenError.{OpenError}
use Rattle.poet_io.specs.declared.files.OpenError.TheVariants as open_error
use Rattle.poet_io.specs.declared.reading.ReadAllError.{ReadAllError}
use Rattle.poet_io.specs.declared.reading.ReadAllError.TheVariants as read_error
use Rattle.run_files.specs.declared.limits.TheConstants.{MOST_FILE}
use Rattle.run_files.specs.declared.whole.FileFault.{FileFault}
use Rattle.run_files.specs.declared.whole.FileFault.TheVariants.{Open, Read, TooLong, Memory}

-- the file of this name is there and its bytes are so, where the folder tells what stands in it
abbrev pub TellsOf : FilesState → List ℕ → (List ℕ → Type 0) → Type 0
TellsOf files name AreSo = IfSome files.folder
    (λ folder. (bytes : List ℕ) × (folder name ≡ Some bytes) × AreSo bytes)

-- The file of this name was read to its end and given back, and these are its bytes.
pub record WasRead (name : List ℕ) (before after : FilesState) (bytes : List ℕ) : Type 0 where
  pub given_back : IsGivenBack name [] before after
  pub told : TellsOf before name (λ its. its ≡ bytes)

-- The file of this name failed to open; or it is absent, and all is as before.
abbrev pub WasNotOpened : (name : List ℕ) → FilesState → FilesState → Type 0
WasNotOpened name before after = HasFailedToOpen name before after
    ⊎ ((after ≡ before) × IsSomeAnd before.folder (λ folder. folder name ≡ None))

-- A read of the file of this name failed, and it was given back.
abbrev pub ReadOfItFailed : (name : List ℕ) → FilesState → FilesState → Type 0
ReadOfItFailed name before after = (left : List ℕ) × HasFailedToRead name left before after

-- The file of this name was read no further than need be and given back, and its bytes are so.
abbrev pub WasGivenBack : (name : List ℕ) → FilesState → FilesState → (List ℕ → Type 0) → Type 0
WasGivenBack name before after AreSo = ((left : List ℕ) × IsGivenBack name left before after)
    × TellsOf before name AreSo

-- There was no memory for the file of this name: it wasn't opened, or it was given back.
abbrev pub WasNoMemoryFor : (name : List ℕ) → FilesState → FilesState → Type 0
WasNoMemoryFor name before after = (after ≡ before)
    ⊎ ((left : List ℕ) × IsGivenBack name left before after)

-- why the file of this name wasn't read whole
abbrev pub WasNotRead : FileFault → (name : List ℕ) → FilesState → FilesState → Type 0
WasNotRead Open name before after = WasNotOpened name before after
WasNotRead Read name before after = ReadOfItFailed name before after
WasNotRead TooLong name before after =
    WasGivenBack name before after (λ bytes. MOST_FILE < length bytes)
WasNotRead Memory name before after = WasNoMemoryFor name before after

-- the fault where a file wasn't opened
abbrev pub fault_of_opening : OpenError → FileFault
fault_of_opening open_error.Absent = Open
fault_of_opening open_error.Failed = Open
fault_of_opening open_error.Oom = Memory

-- the fault where a file wasn't read to its end
abbrev pub fault_of_reading : ReadAllError → FileFault
fault_of_reading read_error.Failed = Read
fault_of_reading read_error.TooLong = TooLong
fault_of_reading read_error.Oom = Memory
