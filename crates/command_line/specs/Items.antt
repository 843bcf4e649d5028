-- The files that are named behind the target.
use Rattle.std.specs.Prelude.{◌≡◌, ◌≢◌, ℕ, ◌≤◌, List, [], ◌∷◌, ◌++◌, length, map, All, Option, codes}
use Rattle.std.specs.Option.{option_to_list}
use Rattle.command_line.specs.declared.limits.TheConstants.{MOST_NAMES}

-- a file that is named behind the target, and what it is: events of a collector, the script of a
-- client, or the closing script
pub data Item : Type 0 where
  Events : (name : List ℕ) → Item
  Client : (name : List ℕ) → Item
  Closing : (name : List ℕ) → Item

-- its word
abbrev pub item_text : Item → List ℕ
item_text (Events name) = codes "e:" ++ name
item_text (Client name) = codes "c:" ++ name
item_text (Closing name) = codes "z:" ++ name

-- its name
abbrev pub item_name : Item → List ℕ
item_name (Events name) = name
item_name (Client name) = name
item_name (Closing name) = name

-- the names of the files of events, in their order
abbrev pub events_of : List Item → List (List ℕ)
events_of [] = []
events_of (Events name ∷ items) = name ∷ events_of items
events_of (Client name ∷ items) = events_of items
events_of (Closing name ∷ items) = events_of items

-- the names of the scripts of clients, in their order
abbrev pub clients_of : List Item → List (List ℕ)
clients_of [] = []
clients_of (Events name ∷ items) = clients_of items
clients_of (Client name ∷ items) = name ∷ clients_of items
clients_of (Closing name ∷ items) = clients_of items

-- the names of the closing scripts, in their order
abbrev pub closings_of : List Item → List (List ℕ)
closings_of [] = []
closings_of (Events name ∷ items) = closings_of items
closings_of (Client name ∷ items) = closings_of items
closings_of (Closing name ∷ items) = name ∷ closings_of items

-- A word is that of a file with a name that isn't empty.
pub record IsItem (word : List ℕ) (item : Item) : Type 0 where
  pub spelled : word ≡ item_text item
  pub named : item_name item ≢ []

-- The files are these: of events and of scripts of clients at most 16 each, and at most one closing
-- script.
pub record AreFiles (items : List Item) (events clients : List (List ℕ))
    (closing : Option (List ℕ)) : Type 0 where
  pub events_are : events ≡ events_of items
  pub most_events : length events ≤ MOST_NAMES
  pub clients_are : clients ≡ clients_of items
  pub most_clients : length clients ≤ MOST_NAMES
  pub closing_is : option_to_list closing ≡ closings_of items

-- no files begin with these and go on with that one: there are as many of its kind as there may be
abbrev pub IsFullFor : List Item → Item → Type 0
IsFullFor items item =
    (more : List Item) (events clients : List (List ℕ)) (closing : Option (List ℕ))
    → AreFiles (items ++ item ∷ more) events clients closing → ⊥

-- The words name these files, each by a name that isn't empty.
pub record NameFiles (words events clients : List (List ℕ)) (closing : Option (List ℕ))
    : Type 0 where
  pub items : List Item
  pub spelled : words ≡ map item_text items
  pub named : All (λ item. item_name item ≢ []) items
  pub files : AreFiles items events clients closing
