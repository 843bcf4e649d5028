-- Stamps as they are kept, and the last event above a level, as links from event to event.
use Rattle.std.specs.Prelude.{◌≡◌, ℕ, zero, suc, ◌≤◌, Bool, false, cond, nat_lt, List, All, map, length, slice_get, Option, None, Some}
use Rattle.causal_base.specs.Stamps.{ClusterTimestamp}
use Rattle.causal_base.specs.declared.limits.TheConstants.{MOST_NUMBER, MOST_TRACES}
use Rattle.projected_stamp.specs.declared.above.Kept.{Kept}
use Rattle.projected_stamp.specs.declared.numbers.Run.{Run}
use Rattle.projected_stamp.specs.Runs.{HasRun, run_of}

-- there is a level, and it is greater
abbrev pub is_above : ℕ → Option ℕ → Bool
is_above level None = false
is_above level (Some its) = nat_lt level its

-- the last number up to this one whose level is greater, and 0 where none is
abbrev pub last_above : List ℕ → ℕ → ℕ → ℕ
last_above levels level zero = 0
last_above levels level (suc before) = cond (is_above level (slice_get levels before)) (suc before)
    (last_above levels level before)

-- the levels of what is kept
abbrev pub levels_of : List Kept → List ℕ
levels_of kept = map (λ k. k.level) kept

-- a stamp that is kept, with its numbers in these blocks
abbrev pub stamp_of : List (List ℕ) → Kept → ClusterTimestamp
stamp_of blocks k =
    record { level = k.level; members = k.members; clock = run_of blocks k.run (length k.members) }

-- the stamps that are kept
abbrev pub stamps_of : List (List ℕ) → List Kept → List ClusterTimestamp
stamps_of blocks kept = map (stamp_of blocks) kept

-- a stamp whose numbers lie there, as it is kept behind the others of its trace
abbrev pub next_kept : List Kept → ClusterTimestamp → Run → Kept
next_kept kept stamp run = record {
  members = stamp.members;
  run = run;
  above = last_above (levels_of kept) stamp.level (length kept);
  level = stamp.level;
}

-- Each is kept with the last number before its own that has a greater level.
abbrev pub IsLinked : List Kept → Type 0
IsLinked kept = (before : ℕ) (k : Kept) → slice_get kept before ≡ Some k
    → k.above ≡ last_above (levels_of kept) k.level before

-- What holds of the stamps of each trace.
pub record IsKept (blocks : List (List ℕ)) (kept : List Kept) : Type 0 where
  pub linked : IsLinked kept
  pub few : length kept ≤ MOST_NUMBER
  pub small : All (λ k. length k.members ≤ MOST_TRACES) kept
  pub stand : All (λ k. HasRun blocks k.run (length k.members)) kept
