-- How the list of what became of a folder's files goes on, where the folder tells it.
use Rattle.std.specs.Prelude.{◌≡◌, List, ℕ, [], ◌∷◌, ◌++◌, nat_lt, Option, None, Some, MatchOption}
use Rattle.std.specs.Option.{option_map}
use Rattle.poet_io.specs.declared.uses.Use.{Use}
use Rattle.poet_io.specs.declared.uses.Use.TheVariants.{Closed}
use Rattle.poet_io.specs.SourceState.{SourceState}

-- these came to it
abbrev pub GainsAll : (before after : Option (List Use)) → List Use → Type 0
GainsAll before after more = after ≡ option_map (λ uses. uses ++ more) before

-- one more came to it
abbrev pub Gains : (before after : Option (List Use)) → Use → Type 0
Gains before after one = GainsAll before after (one ∷ [])

-- A file that is given back is added: its name, what is left of it, and whether it has failed.
abbrev pub NotesClose : SourceState → (before after : Option (List Use)) → Type 0
NotesClose source before after = MatchOption before (after ≡ None)
    (λ uses. (name left : List ℕ)
    × (source.name ≡ Some name) × (source.left ≡ Some left)
    × (after ≡ Some (uses ++ Closed name left (nat_lt 0 source.faults) ∷ [])))
