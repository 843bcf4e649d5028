-- How a walk over entries finds what a stamp has no number for. It keeps numbers, one for each
-- trace; an event is within them where its number is at most that of its trace.
use Rattle.std.specs.Prelude.{◌≡◌, ℕ, ◌-◌, ◌<◌, ◌≤◌, ◌⊎◌, max, List, length, drop, slice_get, slice_index, Contains, Some}
use Rattle.causal_base.specs.declared.event.Event.{Event}
use Rattle.causal_base.specs.Clocks.{IsClock}
use Rattle.causal_base.specs.Clusters.{bound_of}
use Rattle.causal_base.specs.Journal.{delivered_by, deliveries_by}
use Rattle.causal_base.specs.Stamps.{ClusterTimestamp, IsEntry}
use Rattle.projected_stamp.specs.Parts.{IsPart}
use Rattle.precedence.specs.declared.walk.Wanted.{Wanted}
use Rattle.precedence.specs.declared.walk.Wanted.TheVariants.{One, All}
use Rattle.precedence.specs.StampedJournal.{StampedJournal, AreStampsOf}

abbrev pub IsDelivered : StampedJournal → Event → Type 0
IsDelivered w e = Contains (delivered_by w.journal) e

-- the clock of an event of the journal for a trace
abbrev pub IsNumber : StampedJournal → Event → ℕ → ℕ → Type 0
IsNumber w e trace n = IsClock w.types (delivered_by w.journal) e trace n

-- how many steps a walk takes at most from a level on
abbrev pub bound_from : StampedJournal → ℕ → ℕ
bound_from w level = bound_of (drop (level - 1) w.clustering.sizes)

-- the trace's number is wanted
abbrev pub IsWanted : StampedJournal → Wanted → ℕ → Type 0
IsWanted w (One wanted) trace = trace ≡ wanted
IsWanted w All trace = trace < w.types.traces

-- these members have each wanted trace, of so many
abbrev pub HasWanted : Wanted → ℕ → List ℕ → Type 0
HasWanted (One wanted) traces members = Contains members wanted
HasWanted All traces members = length members ≡ traces

-- There are so many numbers that each trace has one; where those of all are wanted, there are no
-- others.
abbrev pub AreWide : StampedJournal → Wanted → List ℕ → Type 0
AreWide w (One wanted) numbers = (wanted < w.types.traces) × (w.types.traces ≤ length numbers)
AreWide w All numbers = length numbers ≡ w.types.traces

-- The walk is over the stamps of this journal.
pub record IsOver (w : StampedJournal) (lists : List (List ClusterTimestamp)) (wanted : Wanted)
    (numbers : List ℕ) : Type 0 where
  pub stamps : AreStampsOf w lists
  pub wide : AreWide w wanted numbers

-- what is within the numbers has no greater clock for a trace than its number
abbrev pub Covers : StampedJournal → List ℕ → ℕ → Type 0
Covers w numbers trace = (x : Event) → IsDelivered w x
    → x.id.number ≤ slice_index numbers x.id.trace
    → (n : ℕ) → IsNumber w x trace n → n ≤ slice_index numbers trace

-- The numbers became no smaller, and grew no further than the clock of an event.
pub record GrowsWithin (w : StampedJournal) (e : Event) (before after : List ℕ) : Type 0 where
  pub grows : (trace : ℕ) → slice_index before trace ≤ slice_index after trace
  pub within : (trace n : ℕ) → IsNumber w e trace n
      → slice_index after trace ≤ max (slice_index before trace) n

-- The numbers took in an event: for a wanted trace that they covered they have no less than its
-- clock.
pub record TakesIn (w : StampedJournal) (wanted : Wanted) (e : Event) (before after : List ℕ)
    : Type 0 where
  pub grown : GrowsWithin w e before after
  pub reached : (trace : ℕ) → IsWanted w wanted trace → Covers w before trace
      → (n : ℕ) → IsNumber w e trace n → n ≤ slice_index after trace

-- They took in the entries of an event that lie on some traces.
pub record TakesInEntries (w : StampedJournal) (wanted : Wanted) (e : Event) (On : ℕ → Type 0)
    (before after : List ℕ) : Type 0 where
  pub grown : GrowsWithin w e before after
  pub kept : (trace : ℕ) → IsWanted w wanted trace → Covers w before trace → Covers w after trace
  pub reached : (trace : ℕ) → IsWanted w wanted trace → Covers w before trace
      → (r : Event) → IsEntry w.types w.clustering (deliveries_by w.journal) e r → On r.id.trace
      → (n : ℕ) → IsNumber w r trace n → n ≤ slice_index after trace

-- the trace is the member at one of these places
abbrev pub IsBetween : List ℕ → ℕ → ℕ → ℕ → Type 0
IsBetween members from to trace = (place : ℕ) × (from ≤ place) × (place < to)
    × (slice_get members place ≡ Some trace)

-- The numbers were raised to the parts of a stamp.
pub record RaisesParts (stamp : ClusterTimestamp) (before after : List ℕ) : Type 0 where
  pub grows : (trace : ℕ) → slice_index before trace ≤ slice_index after trace
  pub raised : (trace n : ℕ) → trace < length before → IsPart stamp trace n
      → n ≤ slice_index after trace
  pub no_other : (trace : ℕ) → (slice_index after trace ≡ slice_index before trace)
      ⊎ IsPart stamp trace (slice_index after trace)
