-- What holds of a legal past, as an instance of what holds of a history of events that came.
use Rattle.std.proofs.Common.{◌≡◌, ◌<◌, ◌≤◌, ℕ, length, List}
use Rattle.std.specs.Prelude.{Contains}
use Rattle.causal_base.specs.declared.block.Block.{Block}
use Rattle.causal_base.specs.declared.block.Block.TheVariants.{One, Two}
use Rattle.causal_base.specs.declared.entry.Entry.{Entry}
use Rattle.causal_base.specs.declared.event.Event.{Event}
use Rattle.causal_base.specs.declared.event_id.EventId.{EventId}
use Rattle.causal_base.specs.Types.{TypeTable}
use Rattle.causal_base.specs.History.{count_on, IsNextOfTrace, IsReady}
use Rattle.causal_base.specs.Past.{came, deliveries, delivered, HasTrace, IsEnabled, IsHistoryOf, IsLegalPast}
use Rattle.causal_base.proofs.Numbered.{IsNumbered}
use Rattle.causal_base.proofs.Pasts.{came_fit, same_came, causal, delivered_came}
use Rattle.causal_base.proofs.Ready as ready
use Rattle.causal_base.proofs.Partners as partners

-- the deliveries of a legal past are a history of the events that came
pub history_of_past : (types : TypeTable) (past : List Entry) → IsLegalPast types past → IsHistoryOf types (came past) (deliveries past)
history_of_past types past legal = record {
  fit = came_fit types past legal;
  own_ids = same_came types past legal;
  causal = causal types past legal;
  came_first = delivered_came types past legal;
}

-- two partners that came, each the next of its trace, the lower trace first
abbrev pub AreNextPartners : TypeTable → List Entry → Event → Event → Type 0
AreNextPartners types past x y = partners.AreNextPartners types (came past) (deliveries past) x y

module _ (types : TypeTable) (past : List Entry) (legal : IsLegalPast types past) where
  pub delivered_numbered : IsNumbered (delivered past)
  delivered_numbered = ready.delivered_numbered_among types (came past) (deliveries past) (history_of_past types past legal)

  pub delivered_from_number : (e : Event) → Contains (came past) e → e.id.number ≤ count_on e.id.trace (delivered past) → Contains (delivered past) e
  delivered_from_number = ready.delivered_from_number_among types (came past) (deliveries past) (history_of_past types past legal)

  pub number_from_delivered : (e : Event) → Contains (delivered past) e → e.id.number ≤ count_on e.id.trace (delivered past)
  number_from_delivered = ready.number_from_delivered_among types (came past) (deliveries past) (history_of_past types past legal)

  pub ready_from_enabled : (a : EventId) → IsEnabled types past (One a) → (e : Event) × Contains (came past) e × (e.id ≡ a) × IsNextOfTrace (delivered past) e × IsReady types (delivered past) e
  ready_from_enabled = ready.ready_from_enabled types (came past) (deliveries past) (history_of_past types past legal)

  pub length-delivered : length (delivered past) ≤ length (came past)
  length-delivered = ready.length-delivered types (came past) (deliveries past) (history_of_past types past legal)

  pub count-le-came : (trace : ℕ) → count_on trace (delivered past) ≤ length (came past)
  count-le-came = ready.count-le-came types (came past) (deliveries past) (history_of_past types past legal)

  pub length-delivered-lt : (e : Event) → Contains (came past) e → IsNextOfTrace (delivered past) e → length (delivered past) < length (came past)
  length-delivered-lt = ready.length-delivered-lt types (came past) (deliveries past) (history_of_past types past legal)

  pub trace_of_enabled : (block : Block) → IsEnabled types past block → (trace : ℕ) × HasTrace block trace × (trace < types.traces)
  trace_of_enabled = ready.trace_of_enabled types (came past) (deliveries past) (history_of_past types past legal)

  pub partners_from_enabled : (a b : EventId) → IsEnabled types past (Two a b) → (x y : Event) × (x.id ≡ a) × (y.id ≡ b) × AreNextPartners types past x y
  partners_from_enabled = partners.partners_from_enabled types (came past) (deliveries past) (history_of_past types past legal)
