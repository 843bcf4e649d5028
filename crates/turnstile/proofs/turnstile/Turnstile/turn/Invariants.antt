use Rattle.std.proofs.Common.{◌≡◌, ℕ, ◌++◌, replicate}
use Rattle.turnstile.specs.Shown.{view_of, IsPassOf}
use Rattle.turnstile.proofs.turnstile.Turnstile.turn.Given as goal

-- some draws found 1, and nothing else was done
abbrev pub invariant-loop : goal.invariant-loop
invariant-loop g l = IsPassOf l.self l.pass
    × ((busy : ℕ) × (view_of l.pass ≡ record (view_of l.initial.pass) { draws = (view_of l.initial.pass).draws ++ replicate busy 1 }))
