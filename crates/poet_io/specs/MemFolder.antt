-- What a folder in memory is.
use Rattle.std.specs.Prelude.{◌≡◌, List, ℕ, [], ◌∷◌, Option, find}
use Rattle.std.specs.Option.{option_map}
use Rattle.std.specs.Str.{bytes_eq}
use Rattle.poet_io.specs.declared.files.OpenError.{OpenError}
use Rattle.poet_io.specs.declared.files.OpenError.TheVariants.{Absent, Failed, Oom}
use Rattle.poet_io.specs.declared.uses.Use.{Use}
use Rattle.poet_io.specs.declared.uses.Use.TheVariants.{Refused}
use Rattle.poet_io.specs.Counter.{counted}
use Rattle.poet_io.specs.Folder.{Folder}
use Rattle.poet_io.specs.MemFile.{MemFileState}
use Rattle.poet_io.specs.MemSource.{unread}

-- a file that stands in the folder: its name, its bytes, and the numbers of the reads that fail
pub record StoredState : Type 0 where
  pub name : List ℕ
  pub bytes : List ℕ
  pub fail_at : List ℕ

-- the files, the newest first, the names that fail to open, how often the folder failed, and what
-- became of its files, the newest first
pub record MemFolderState : Type 0 where
  pub files : List StoredState
  pub failing : List (List ℕ)
  pub faults : ℕ
  pub uses : List Use

-- a folder with no file
abbrev pub empty_folder : MemFolderState
empty_folder = record { files = []; failing = []; faults = 0; uses = [] }

-- the folder with one more file, which hides those of the same name
abbrev pub with_file : MemFolderState → (name bytes fail_at : List ℕ) → MemFolderState
with_file folder name bytes fail_at =
    let file : StoredState = record { name = name; bytes = bytes; fail_at = fail_at } in
    record folder { files = file ∷ folder.files }

-- the file that a name stands for, which is the newest of that name
abbrev pub file_at : List StoredState → List ℕ → Option StoredState
file_at files name = find (λ file. bytes_eq file.name name) files

-- the bytes that stand under each name
abbrev pub bytes_at : List StoredState → Folder
bytes_at files name = option_map (λ file. file.bytes) (file_at files name)

-- the open file that a stored one gives
abbrev pub opened : StoredState → MemFileState
opened file = record { name = file.name; source = unread file.bytes file.fail_at }

-- an opening that failed counts a fault and is noted, and each other refusal changes nothing
abbrev pub LeavesFolder : OpenError → List ℕ → (old new : MemFolderState) → Type 0
LeavesFolder Absent name old new = new ≡ old
LeavesFolder Failed name old new = new ≡ record old
    { faults = counted old.faults; uses = Refused name ∷ old.uses }
LeavesFolder Oom name old new = new ≡ old
