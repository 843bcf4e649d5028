-- Which traces lead.
use Rattle.std.specs.Prelude.{◌≡◌, ℕ, List}
use Rattle.causal_base.specs.declared.block.Block.{Block}
use Rattle.causal_base.specs.declared.block.Block.TheVariants.{One, Two}
use Rattle.causal_base.specs.declared.entry.Entry.{Entry}
use Rattle.causal_base.specs.declared.entry.Entry.TheVariants.{Gone, Pair}
use Rattle.causal_base.specs.declared.event.Event.{Event}
use Rattle.causal_base.specs.Types.{TypeTable}
use Rattle.causal_base.specs.History.{EventBlock}
use Rattle.causal_base.specs.Past.{IsEnabledAmong}

-- the trace of an event, and the lower trace of a pair
abbrev pub first_trace : Block → ℕ
first_trace (One a) = a.trace
first_trace (Two a b) = a.trace

-- A trace leads when it is the lowest trace of an enabled block.
pub record Leads (types : TypeTable) (events : List Event) (history : List EventBlock)
    (trace : ℕ) : Type 0 where
  pub block : Block
  pub enabled : IsEnabledAmong types events history block
  pub first : first_trace block ≡ trace

-- the entry by which a block is delivered
abbrev pub entry_of : Block → Entry
entry_of (One a) = Gone a
entry_of (Two a b) = Pair a b
