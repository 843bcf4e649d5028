-- What stands where in a target document, as TOML reads it.
use Rattle.std.specs.Prelude.{ℕ, List, [], ◌∷◌, Option, slice_get, codes, option_and_then}
use Rattle.std.specs.Option.{option_map_or}
use Rattle.toml.specs.Data.{Data, Items, no_items, item, Members, no_members, member, get, get_member, as_str, as_array, as_table}

-- the items of an array
abbrev pub list_of : Items → List Data
list_of no_items = []
list_of (item first items) = first ∷ list_of items

-- the keys of a table
abbrev pub keys_of : Members → List (List ℕ)
keys_of no_members = []
keys_of (member key value members) = key ∷ keys_of members

-- the array under a key, which is empty where the key is missing or holds no array
abbrev pub array_under : List ℕ → Members → List Data
array_under key document = option_map_or list_of
    (option_and_then as_array (get_member key document)) []

-- the traces and the entries for types of a document
abbrev pub traces_of : Members → List Data
traces_of document = array_under (codes "traces") document

abbrev pub entries_of : Members → List Data
entries_of document = array_under (codes "event") document

-- what an entry has under a key
abbrev pub field : List ℕ → List Data → ℕ → Option Data
field key entries i = option_and_then (get key) (slice_get entries i)

-- the string that an entry has under a key
abbrev pub text_field : List ℕ → List Data → ℕ → Option (List ℕ)
text_field key entries i = option_and_then as_str (field key entries i)

abbrev pub name_field : List Data → ℕ → Option (List ℕ)
name_field entries i = text_field (codes "name") entries i

abbrev pub kind_field : List Data → ℕ → Option (List ℕ)
kind_field entries i = text_field (codes "kind") entries i

abbrev pub mate_field : List Data → ℕ → Option (List ℕ)
mate_field entries i = text_field (codes "mate") entries i

-- the keys of an entry
abbrev pub entry_keys : List Data → ℕ → List (List ℕ)
entry_keys entries i = option_map_or keys_of (option_and_then as_table (slice_get entries i)) []
