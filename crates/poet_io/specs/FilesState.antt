-- What a folder of files is to a contract.
use Rattle.std.specs.Prelude.{ℕ, List, Option}
use Rattle.poet_io.specs.declared.uses.Use.{Use}
use Rattle.poet_io.specs.Folder.{Folder}

-- how often it failed, and what stands in it and what became of its files, the oldest first, where
-- it tells these two
pub record FilesState : Type 0 where
  pub faults : ℕ
  pub folder : Option Folder
  pub uses : Option (List Use)
