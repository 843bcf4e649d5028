use Rattle.std.proofs.Common.{◌≢◌, All, take}
use Rattle.causal_base.proofs.fields.split_once.Given as goal

abbrev pub invariant-loop-index : goal.invariant-loop-index
invariant-loop-index l = All (λ byte. byte ≢ l.separator) (take l.index l.bytes)
