-- What stands in a folder, and what opening a name of it gives.
use Rattle.std.specs.Prelude.{◌≡◌, List, ℕ, Option, IsSome, Some}
use Rattle.poet_io.specs.SourceState.{SourceState}

-- the bytes that stand under each name of a folder
abbrev pub Folder : Type 0
Folder = List ℕ → Option (List ℕ)

-- The source that was opened tells this name, and has left what stands under it.
pub record IsOpenedAt (folder : Folder) (name : List ℕ) (source : SourceState) : Type 0 where
  pub there : IsSome (folder name)
  pub named : source.name ≡ Some name
  pub whole : source.left ≡ folder name
