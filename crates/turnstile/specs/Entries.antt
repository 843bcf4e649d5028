-- Which entries of a journal are of a number, and how a journal that was seen goes on.
use Rattle.std.specs.Prelude.{◌≡◌, ℕ, ◌==◌, Bool, false, List, [], ◌++◌, filter}
use Rattle.std.specs.List.{AllByRecursion}
use Rattle.causal_base.specs.declared.entry.Entry.{Entry}
use Rattle.causal_base.specs.declared.entry.Entry.TheVariants.{Came, Gone, Pair, Ended}

-- this number brought the entry's event, or ended with it
abbrev pub is_of : ℕ → Entry → Bool
is_of number (Came collector event) = collector == number
is_of number (Gone id) = false
is_of number (Pair first second) = false
is_of number (Ended collector) = collector == number

-- the entries of a number, in their order
abbrev pub entries_of : ℕ → List Entry → List Entry
entries_of number journal = filter (is_of number) journal

-- an entry that is of no other number
abbrev pub IsOfNoOther : ℕ → Entry → Type 0
IsOfNoOther number (Came collector event) = collector ≡ number
IsOfNoOther number (Gone id) = Unit {0}
IsOfNoOther number (Pair first second) = Unit {0}
IsOfNoOther number (Ended collector) = collector ≡ number

-- The journal begins with what was seen, and goes on by entries of which none is of this number.
pub record GoesOnWithout (number : ℕ) (seen journal : List Entry) : Type 0 where
  pub added : List Entry
  pub whole : journal ≡ seen ++ added
  pub without : entries_of number added ≡ []

-- The journal begins with what was seen, and goes on by entries of which each Came and each Ended
-- names this number.
pub record GoesOnBy (number : ℕ) (seen journal : List Entry) : Type 0 where
  pub added : List Entry
  pub whole : journal ≡ seen ++ added
  pub own : AllByRecursion (IsOfNoOther number) added
