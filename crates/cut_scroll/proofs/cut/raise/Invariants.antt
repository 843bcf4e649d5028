use Rattle.std.proofs.Common.{◌≡◌, ℕ, ◌<◌, ◌≤◌, max, get_or}
use Rattle.cut_scroll.proofs.cut.raise.Given as goal

-- up to here the counts are raised, and from here on they are as they were
abbrev pub invariant-loop-place : goal.invariant-loop-place
invariant-loop-place l = record {
  raised : (k : ℕ) → k < l.place → get_or l.counts k 0 ≡ max (get_or l.initial.counts k 0) (get_or l.numbers k 0);
  left : (k : ℕ) → l.place ≤ k → get_or l.counts k 0 ≡ get_or l.initial.counts k 0;
}
