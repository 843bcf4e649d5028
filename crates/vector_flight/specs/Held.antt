-- What holds of all clocks that a flight holds, and how its parts change.
use Rattle.std.specs.Prelude.{◌≡◌, ℕ, ◌≤◌, List, length, All, Contains, Option, None, Some, slice_set}
use Rattle.causal_base.specs.declared.event_id.EventId.{EventId}
use Rattle.causal_base.specs.declared.limits.TheConstants.{MOST_TRACES}

-- each clock has so many numbers
abbrev pub AreOf : ℕ → List (List ℕ) → Type 0
AreOf traces clocks = All (λ clock. length clock ≡ traces) clocks

-- each clock of a send has so many numbers
abbrev pub AreSentOf : ℕ → List (EventId × Option (List ℕ)) → Type 0
AreSentOf traces sends = (id : EventId) (clock : List ℕ) → Contains sends (id, Some clock)
    → length clock ≡ traces

-- each clock of a send that is there was there before
abbrev pub HasNoMore : List (EventId × Option (List ℕ)) → List (EventId × Option (List ℕ)) → Type 0
HasNoMore old new = (id : EventId) (clock : List ℕ) → Contains new (id, Some clock)
    → Contains old (id, Some clock)

-- Each clock has a number for each of at most 256 traces.
pub record AreHeld (newest : List (List ℕ)) (sends : List (EventId × Option (List ℕ)))
    (spent : List (List ℕ)) : Type 0 where
  pub few : length newest ≤ MOST_TRACES
  pub newest_each : AreOf (length newest) newest
  pub sent_each : AreSentOf (length newest) sends
  pub spent_each : AreOf (length newest) spent

-- the newest clocks after this one became that of one trace or two
abbrev pub with_newest : List (List ℕ) → EventId → Option EventId → List ℕ → List (List ℕ)
with_newest newest first None clock = slice_set newest first.trace clock
with_newest newest first (Some second) clock =
    slice_set (slice_set newest second.trace clock) first.trace clock
