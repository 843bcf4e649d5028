use Rattle.std.proofs.Common.{◌≢◌, ℕ, ◌<◌, Some}
use Rattle.target_desc.specs.Drafts.{draft_name}
use Rattle.target_desc.proofs.draft.place_of.Given as goal

abbrev pub invariant-loop-place : goal.invariant-loop-place
invariant-loop-place l = (j : ℕ) → j < l.place → draft_name l.drafts j ≢ Some l.name
