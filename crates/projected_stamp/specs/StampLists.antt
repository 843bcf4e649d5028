-- Stamps of events by trace and number.
use Rattle.std.specs.Prelude.{◌≡◌, ℕ, ◌-◌, ◌<◌, ◌≤◌, List, slice_get, Some, length}
use Rattle.std.specs.List.{sum_by}
use Rattle.causal_base.specs.declared.event_id.EventId.{EventId}
use Rattle.causal_base.specs.Stamps.{ClusterTimestamp}
use Rattle.shared_list.specs.Traces.{list_of}

-- the list of stamps of each trace, and how many more of that trace there is room for
pub record StampLists : Type 0 where
  pub lists : List (List ClusterTimestamp)
  pub spare : List ℕ

-- The stamp stands for this number, counted from 1.
pub record IsAt (stamps : List ClusterTimestamp) (number : ℕ) (stamp : ClusterTimestamp)
    : Type 0 where
  pub from : 1 ≤ number
  pub stands : slice_get stamps (number - 1) ≡ Some stamp

-- the stamp of the event with this id
abbrev pub IsStampAt : List (List ClusterTimestamp) → EventId → ClusterTimestamp → Type 0
IsStampAt lists id stamp = IsAt (list_of lists id.trace) id.number stamp

-- Of the stamps with a number up to this one and a greater level than this one, it is the last.
pub record IsLastOf (stamps : List ClusterTimestamp) (upto level number : ℕ)
    (stamp : ClusterTimestamp)
    : Type 0 where
  pub at : IsAt stamps number stamp
  pub most : number ≤ upto
  pub above : level < stamp.level
  pub last : (later : ℕ) (other : ClusterTimestamp) → number < later → later ≤ upto
      → IsAt stamps later other → other.level ≤ level

-- none with a number up to this one has a greater level than this one
abbrev pub HasNoneAbove : List ClusterTimestamp → ℕ → ℕ → Type 0
HasNoneAbove stamps upto level = (number : ℕ) (stamp : ClusterTimestamp) → number ≤ upto
    → IsAt stamps number stamp → stamp.level ≤ level

-- how many numbers all stamps keep
abbrev pub parts_of : List (List ClusterTimestamp) → ℕ
parts_of lists = sum_by (λ stamps. sum_by (λ stamp. length stamp.members) stamps) lists
