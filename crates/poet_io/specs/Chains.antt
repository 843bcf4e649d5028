-- A chain of what became of files, as a list.
use Rattle.std.specs.Prelude.{List, [], ◌∷◌}
use Rattle.poet_io.specs.declared.uses.Use.{Use}
use Rattle.poet_io.specs.declared.uses.Chain.{Chain}
use Rattle.poet_io.specs.declared.uses.Chain.TheVariants.{End, More'}

-- the newest first
abbrev pub items_of : Chain → List Use
items_of End = []
items_of (More' item p older) = item ∷ items_of older
