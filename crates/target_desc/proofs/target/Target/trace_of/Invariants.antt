use Rattle.std.proofs.Common.{◌≢◌, ℕ, ◌<◌, Some}
use Rattle.std.specs.Prelude.{slice_get}
use Rattle.target_desc.proofs.target.Target.trace_of.Given as goal

abbrev pub invariant-loop-trace : goal.invariant-loop-trace
invariant-loop-trace l = (other : ℕ) → other < l.trace → slice_get l.self.traces other ≢ Some l.name
