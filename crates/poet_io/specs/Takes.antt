-- What is left of a source's bytes, where the source tells it.
use Rattle.std.specs.Prelude.{◌≡◌, List, ℕ, ◌++◌, Option}
use Rattle.std.specs.Option.{option_map}

-- what was left before is these bytes and then what is left after, where it is told
abbrev pub TakesPrefix : (before after : Option (List ℕ)) → List ℕ → Type 0
TakesPrefix before after prefix = before ≡ option_map (λ rest. prefix ++ rest) after

-- what is left after is what was left before without some prefix of it, where it is told
abbrev pub LeavesRest : (before after : Option (List ℕ)) → Type 0
LeavesRest before after = (prefix : List ℕ) × TakesPrefix before after prefix
