use Rattle.std.proofs.Common.{ℕ, ◌<◌, reverse}
use Rattle.causal_base.specs.declared.block.Block.{Block}
use Rattle.causal_base.specs.Past.{IsEnabled, HasTrace}
use Rattle.causal_base.proofs.plain.next.Given as goal

abbrev pub invariant-loop-trace : goal.invariant-loop-trace
invariant-loop-trace l = (block : Block) (its : ℕ) → IsEnabled l.types (reverse l.journal) block → HasTrace block its → its < l.trace → ⊥
