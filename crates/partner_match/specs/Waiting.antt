use Rattle.std.specs.Prelude.{◌≡◌, ◌≢◌, ℕ, ◌⊎◌, ◌↔◌, List, [], Contains}
use Rattle.std.specs.BTreeMap.{is_at}
use Rattle.std.specs.Map.{lookup}
use Rattle.std.specs.Option.{option_map_or}
use Rattle.std.specs.Ordering.{nat_cmp}
use Rattle.causal_base.specs.declared.event_id.EventId.{EventId}
use Rattle.trace_queue.specs.Held.{HeldValues, held_at}

-- ids of events, each with the traces that wait for that event
abbrev pub Waits : Type 0
Waits = HeldValues (List ℕ)

-- the traces that wait for the event with this id
abbrev pub waiting_for : Waits → EventId → List ℕ
waiting_for waits id = option_map_or (λ traces. traces) (held_at waits id) []

-- of the numbers of one trace, the traces that wait for the event with this one
abbrev pub waiting_under : List (ℕ × List ℕ) → ℕ → List ℕ
waiting_under numbers number =
    option_map_or (λ traces. traces) (lookup (is_at (nat_cmp number)) numbers) []

-- For the event with this id one trace more waits, and nothing else has changed.
pub record WaitsToo (old new : Waits) (id : EventId) (trace : ℕ) : Type 0 where
  pub here : (other : ℕ) → Contains (waiting_for new id) other
      ↔ (Contains (waiting_for old id) other ⊎ (other ≡ trace))
  pub elsewhere : (other : EventId) → other ≢ id → waiting_for new other ≡ waiting_for old other
