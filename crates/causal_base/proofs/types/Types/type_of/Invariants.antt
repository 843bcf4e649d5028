use Rattle.std.proofs.Common.{◌≢◌, ℕ, ◌<◌}
use Rattle.causal_base.specs.Spelling.{name_of}
use Rattle.causal_base.proofs.types.Types.type_of.Given as goal

abbrev pub invariant-loop-type_no : goal.invariant-loop-type_no
invariant-loop-type_no l = (other : ℕ) → other < l.type_no → name_of l.self other ≢ l.name
