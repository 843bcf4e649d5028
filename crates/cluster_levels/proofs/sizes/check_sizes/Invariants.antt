use Rattle.std.proofs.Common.{ℕ, ◌<◌}
use Rattle.causal_base.specs.Refusals.{ArePassed}
use Rattle.cluster_levels.specs.Sizes.{size_refusals}
use Rattle.cluster_levels.proofs.sizes.check_sizes.Given as goal

abbrev pub invariant-loop-i : goal.invariant-loop-i
invariant-loop-i l = (j : ℕ) → j < l.i → ArePassed (size_refusals l.sizes j)
