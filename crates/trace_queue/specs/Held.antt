use Rattle.std.specs.Prelude.{◌≡◌, ◌≢◌, ℕ, List, Option, None, length, slice_get, option_and_then, sum_by}
use Rattle.std.specs.BTreeMap.{is_at}
use Rattle.std.specs.Map.{lookup}
use Rattle.std.specs.Ordering.{nat_cmp}
use Rattle.causal_base.specs.declared.event_id.EventId.{EventId}

-- what is held of each trace: numbers, each with its value
abbrev pub HeldValues : Type 0 → Type 0
HeldValues T = List (List (ℕ × T))

-- the value that is held under this id, if there is one
abbrev pub held_at : {T : Type 0} → HeldValues T → EventId → Option T
held_at held id = option_and_then (λ values. lookup (is_at (nat_cmp id.number)) values)
    (slice_get held id.trace)

-- how many values are held
abbrev pub count_held : {T : Type 0} → HeldValues T → ℕ
count_held held = sum_by (λ values. length values) held

-- nothing is held, of so many traces
pub record HoldsNothing {T : Type 0} (held : HeldValues T) (traces : ℕ) : Type 0 where
  pub of_each : length held ≡ traces
  pub none : (id : EventId) → held_at held id ≡ None
  pub count : count_held held ≡ 0

-- of all ids only this one has another value now, or none
abbrev pub KeepsOthers : {T : Type 0} → HeldValues T → HeldValues T → EventId → Type 0
KeepsOthers old new id = (other : EventId) → other ≢ id → held_at new other ≡ held_at old other
