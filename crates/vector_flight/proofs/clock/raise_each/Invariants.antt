use Rattle.std.proofs.Common.{◌≡◌, ℕ, ◌<◌, ◌≤◌, max, get_or}
use Rattle.vector_flight.proofs.clock.raise_each.Given as goal

-- up to here the numbers are raised, and from here on they are as they were
abbrev pub invariant-loop-place : goal.invariant-loop-place
invariant-loop-place l = record {
  raised : (k : ℕ) → k < l.place → get_or l.numbers k 0 ≡ max (get_or l.initial.numbers k 0) (get_or l.others k 0);
  left : (k : ℕ) → l.place ≤ k → get_or l.numbers k 0 ≡ get_or l.initial.numbers k 0;
}
