-- How a count of faults goes on over a call.
use Rattle.std.specs.Prelude.{◌≡◌, ◌⊎◌, ℕ, ◌-◌, ◌^◌, ◌<◌, ◌≤◌}

-- the count rose, or stands at the last value of a counter
pub record IsRaised (old new : ℕ) : Type 0 where
  pub no_less : old ≤ new
  pub more_or_last : (old < new) ⊎ (new ≡ 2 ^ 64 - 1)
