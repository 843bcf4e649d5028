use Rattle.std.specs.Prelude.{◌≡◌, ◌≤◌, ◌<◌, ◌+◌, ℕ, Bool, true, false, List, length, reverse, Contains, Some, count_by, slice_index_or}
use Rattle.causal_base.specs.declared.block.Block.{Block}
use Rattle.causal_base.specs.declared.entry.Entry.{Entry}
use Rattle.causal_base.specs.declared.event.Event.{Event}
use Rattle.causal_base.specs.declared.event_id.EventId.{EventId}
use Rattle.causal_base.specs.declared.limits.TheConstants.{MOST_COLLECTORS, MOST_TRACES}
use Rattle.causal_base.specs.Types.{TypeTable}
use Rattle.causal_base.specs.TypeTables.{IsTypeTable}
use Rattle.causal_base.specs.History.{EventBlock, all_events}
use Rattle.causal_base.specs.Past.{came, deliveries, delivered, HasEnded, HasEvent, IsEnabledAmong, IsHistoryOf}
use Rattle.partner_match.specs.Waiting.{Waits, waiting_for}
use Rattle.delivery.specs.TraceSets.{IsIn}
use Rattle.delivery.specs.Leading.{first_trace, Leads}

-- types, and a journal of events of these types
pub record TypedJournal : Type 0 where
  pub types : TypeTable
  pub journal : List Entry

-- The set has exactly the traces that lead.
pub record IsReadySet (types : TypeTable) (events : List Event) (history : List EventBlock)
    (ready : List ℕ) : Type 0 where
  pub sound : (trace : ℕ) → trace < MOST_TRACES → IsIn ready trace
      → Leads types events history trace
  pub complete : (block : Block) → IsEnabledAmong types events history block
      → IsIn ready (first_trace block)

-- Each event that came and names one that isn't delivered has its trace wait for that one.
abbrev pub AllWait : List Event → List EventBlock → Waits → Type 0
AllWait events history waits = (e : Event) → Contains events e → (mate : EventId)
    → e.mate ≡ Some mate → (HasEvent (all_events history) mate → ⊥)
    → Contains (waiting_for waits mate) e.id.trace

-- What holds of a past, of who waits, and of what is ready. The past needn't be legal, as an
-- event may come while a block is enabled.
pub record AreParts (types : TypeTable) (past : List Entry) (waits : Waits) (ready : List ℕ)
    : Type 0 where
  pub table : IsTypeTable types
  pub history : IsHistoryOf types (came past) (deliveries past)
  pub ready_set : IsReadySet types (came past) (deliveries past) ready
  pub all_wait : AllWait (came past) (deliveries past) waits

-- What holds of a delivery at each moment: of its parts; and that each entry is of an event that
-- came, or of one or two that are delivered, or of a collector that has ended.
pub record IsDelivery (types : TypeTable) (journal : List Entry) (waits : Waits) (ready : List ℕ)
    (ended : List Bool) : Type 0 where
  pub parts : AreParts types (reverse journal) waits ready
  pub balance : length journal ≤ length (came (reverse journal))
      + length (delivered (reverse journal)) + count_by (λ flag. flag) ended
  pub flags : (collector : ℕ) → collector < MOST_COLLECTORS
      → slice_index_or ended collector false ≡ true → HasEnded (reverse journal) collector
