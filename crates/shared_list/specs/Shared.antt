use Rattle.std.specs.Prelude.{ℕ, List, []}

-- a shared list: its items, and how many more it has room for
pub record Shared (T : Type 0) : Type 0 where
  pub items : List T
  pub spare : ℕ

-- a list of the same items, with no room
abbrev pub unspared : {T : Type 0} → Shared T → Shared T
unspared list = record { items = list.items; spare = 0 }

-- the empty list, with no room
abbrev pub no_items : {T : Type 0} → Shared T
no_items = record { items = []; spare = 0 }
