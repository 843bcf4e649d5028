use Rattle.std.specs.Prelude.{ℕ, ◌<◌, ◌≤◌, ◌+◌, ◌^◌, List, [], ◌∷◌, ◌++◌, length, map, min, All, slice_get, slice_index_or, slice_set}
use Rattle.std.specs.Option.{option_to_list}
use Rattle.std.specs.List.{flat_map}
use Rattle.shared_list.specs.Shared.{Shared}

-- lists of traces: the list of each trace, and how many more items of that trace there is room for
pub record Traces (T : Type 0) : Type 0 where
  pub lists : List (List T)
  pub spare : List ℕ

-- the list of a trace, empty where there is no such trace
abbrev pub list_of : {T : Type 0} → List (List T) → ℕ → List T
list_of lists trace = slice_index_or lists trace []

-- the lists after an item came to a trace
abbrev pub with_item : {T : Type 0} → List (List T) → ℕ → T → List (List T)
with_item lists trace item = slice_set lists trace (list_of lists trace ++ item ∷ [])

-- the items at these places
abbrev pub items_at : {T : Type 0} → List T → List ℕ → List T
items_at items places = flat_map (λ place. option_to_list (slice_get items place)) places

-- the list of each trace, by the places of its items
abbrev pub lists_of : {T : Type 0} → List T → List (Shared ℕ) → List (List T)
lists_of items places = map (λ p. items_at items p.items) places

-- the room of each trace: the lesser of that for items and of that for its places
abbrev pub spares_of : ℕ → List (Shared ℕ) → List ℕ
spares_of spare places = map (λ p. min spare p.spare) places

-- Each place is one of an item, no trace has more places than there are items, and the place of
-- each item that there is room for has 32 bits.
pub record ArePlaces {T : Type 0} (all : Shared T) (places : List (Shared ℕ)) : Type 0 where
  pub within : All (λ p. All (λ place. place < length all.items) p.items) places
  pub no_more : All (λ p. length p.items ≤ length all.items) places
  pub few : length all.items + all.spare < 2 ^ 32
  pub traces : length places < 2 ^ 32
