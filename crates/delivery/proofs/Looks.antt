-- What is known of a set after looks at some traces.
use Rattle.std.proofs.Common.{◌<◌, ◌≤◌, ◌⊎◌, ℕ, List, inl, inr, arith}
use Rattle.causal_base.specs.declared.block.Block.{Block}
use Rattle.causal_base.specs.declared.event.Event.{Event}
use Rattle.causal_base.specs.Types.{TypeTable}
use Rattle.causal_base.specs.History.{EventBlock}
use Rattle.causal_base.specs.Past.{HasTrace, IsEnabledAmong, IsHistoryOf}
use Rattle.delivery.specs.TraceSets.{IsIn}
use Rattle.delivery.specs.Leading.{first_trace, Leads}
use Rattle.delivery.proofs.Leaders.{first_below}

-- The traces of which this is so were looked at: what was in the set is in it, what is in it leads
-- or was in it, and it has the trace that leads each enabled block on one of these traces.
pub record AreLooked (types : TypeTable) (events : List Event) (history : List EventBlock) (Looked : ℕ → Type 0) (old new : List ℕ) : Type 0 where
  pub kept : (other : ℕ) → other < 256 → IsIn old other → IsIn new other
  pub sound : (other : ℕ) → other < 256 → IsIn new other → IsIn old other ⊎ Leads types events history other
  pub found : (block : Block) (trace : ℕ) → IsEnabledAmong types events history block → HasTrace block trace → Looked trace → IsIn new (first_trace block)

-- looks one after another
pub looked_both : (types : TypeTable) (events : List Event) (history : List EventBlock) → IsHistoryOf types events history → types.traces ≤ 256
    → (P Q : ℕ → Type 0) (first between last : List ℕ) → AreLooked types events history P first between → AreLooked types events history Q between last
    → AreLooked types events history (λ trace. P trace ⊎ Q trace) first last
looked_both types events history basis most P Q first between last one two = record {
  kept = λ other below is. two.kept other below (one.kept other below is);
  sound = λ other below is. elim (two.sound other below is) [ inl was ↦ one.sound other below was | inr leads ↦ inr leads ];
  found = λ block trace enabled has either. elim either [
    | inl p ↦ (let below = first_below types events history basis block enabled in two.kept (first_trace block) (omega (arith, below, most)) (one.found block trace enabled has p))
    | inr q ↦ two.found block trace enabled has q
  ];
}
