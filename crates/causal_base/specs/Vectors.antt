-- How the clock of an event follows from those of the events right before it. Fidge 1988, Mattern
-- 1989.
use Rattle.std.specs.Prelude.{◌≡◌, ℕ, ◌⊎◌, List, Contains}
use Rattle.causal_base.specs.declared.event.Event.{Event}
use Rattle.causal_base.specs.Types.{TypeTable}
use Rattle.causal_base.specs.Event.{Fits}
use Rattle.causal_base.specs.Walks.{Succeeds}
use Rattle.causal_base.specs.Clocks.{IsClock}

-- the clock for a trace of the event before this one on its own trace, and 0 where it is the first
abbrev pub IsClockBefore : TypeTable → List Event → Event → ℕ → ℕ → Type 0
IsClockBefore types events e trace n = ((e.id.number ≡ 1) × (n ≡ 0))
    ⊎ ((x : Event) × Contains events x × Succeeds x e × IsClock types events x trace n)

-- the clock for a trace of the event that this one fits, and 0 where it fits none of the events
abbrev pub IsClockFitted : TypeTable → List Event → Event → ℕ → ℕ → Type 0
IsClockFitted types events e trace n =
    (((x : Event) → Contains events x → Fits types e x → ⊥) × (n ≡ 0))
    ⊎ ((x : Event) × Contains events x × Fits types e x × IsClock types events x trace n)
