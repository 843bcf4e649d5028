-- What a sink has taken, where the sink tells it.
use Rattle.std.specs.Prelude.{◌≡◌, ◌≤◌, List, ℕ, ◌++◌, length, take, Option}
use Rattle.std.specs.Option.{option_map}

-- what is taken after is what was taken before and then these bytes, where it is told
abbrev pub Grows : (before after : Option (List ℕ)) → List ℕ → Type 0
Grows before after more = after ≡ option_map (λ taken. taken ++ more) before

-- what was taken grew by some prefix of these bytes, where it is told
abbrev pub GrowsByPrefix : (before after : Option (List ℕ)) → List ℕ → Type 0
GrowsByPrefix before after bytes = (n : ℕ) × (n ≤ length bytes) × Grows before after (take n bytes)
