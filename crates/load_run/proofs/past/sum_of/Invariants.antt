use Rattle.std.proofs.Common.{◌≡◌, ◌≤◌, ◌*◌, ◌^◌, take, sum}
use Rattle.load_run.proofs.past.sum_of.Given as goal

-- the numbers so far, each below 2^32
abbrev pub invariant-loop-number : goal.invariant-loop-number
invariant-loop-number l = (l.sum ≡ sum (take l.number-index l.clock)) × (l.sum ≤ l.number-index * 2 ^ 32)
