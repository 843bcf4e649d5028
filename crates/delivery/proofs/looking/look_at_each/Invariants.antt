use Rattle.std.proofs.Common.{◌<◌, ◌⊎◌, ℕ, reverse, take}
use Rattle.std.specs.Prelude.{Contains}
use Rattle.causal_base.specs.declared.block.Block.{Block}
use Rattle.causal_base.specs.Past.{came, deliveries, HasTrace, IsEnabled}
use Rattle.delivery.specs.Leading.{first_trace, Leads}
use Rattle.delivery.specs.TraceSets.{IsIn}
use Rattle.delivery.proofs.looking.look_at_each.Given as goal

abbrev pub invariant-loop-trace : goal.invariant-loop-trace
invariant-loop-trace l = record {
  kept : (other : ℕ) → other < 256 → IsIn l.initial.ready other → IsIn l.ready other;
  sound : (other : ℕ) → other < 256 → IsIn l.ready other → IsIn l.initial.ready other ⊎ Leads l.types (came (reverse l.journal)) (deliveries (reverse l.journal)) other;
  found : (block : Block) (trace : ℕ) → IsEnabled l.types (reverse l.journal) block → HasTrace block trace → Contains (take l.trace-index l.traces) trace → IsIn l.ready (first_trace block);
}
