use Rattle.std.proofs.Common.{ℕ, ◌<◌}
use Rattle.target_desc.specs.Drafts.{HasAt, MateIsNotMutual}
use Rattle.target_desc.proofs.mates.first_unmutual_mate.Given as goal

abbrev pub invariant-loop-place : goal.invariant-loop-place
invariant-loop-place l = (j : ℕ) → j < l.place → HasAt (MateIsNotMutual l.drafts) l.drafts j → ⊥
