-- What the laws of clocks, stamps and entries say of a journal.
use Rattle.std.specs.Prelude.{◌≡◌, ℕ, ◌+◌, ◌*◌, ◌<◌, ◌≤◌, ◌↔◌, false, List, length, drop, suc, Some, slice_get}
use Rattle.causal_base.specs.declared.event.Event.{Event}
use Rattle.causal_base.specs.Walks.{Reaches}
use Rattle.causal_base.specs.Clocks.{IsClock}
use Rattle.causal_base.specs.Clusters.{bound_of, levels_of, size_at}
use Rattle.causal_base.specs.History.{all_events}
use Rattle.causal_base.specs.Journal.{delivered_by, deliveries_by}
use Rattle.causal_base.specs.Stamps.{history_of, is_member, level_of, members_of, IsLastAbove, IsGreatestOfEntries}
use Rattle.precedence.specs.StampedJournal.{StampedJournal}
use Rattle.precedence.specs.Walking.{IsDelivered, IsNumber}

pub record HasLaws (w : StampedJournal) : Type 0 where
  pub on_a_trace : (e : Event) → IsDelivered w e → e.id.trace < w.types.traces
  pub numbered : (e : Event) → IsDelivered w e → 1 ≤ e.id.number
  pub clock_is_one : (e : Event) (trace m n : ℕ) → IsNumber w e trace m → IsNumber w e trace n
      → m ≡ n
  pub clock_exists : (e : Event) → IsDelivered w e → (trace : ℕ) → (n : ℕ) × IsNumber w e trace n
  pub tells_reach : (e : Event) → IsDelivered w e → (trace n : ℕ) → IsNumber w e trace n
      → (x : Event) → IsDelivered w x → x.id.trace ≡ trace
      → (Reaches w.types (delivered_by w.journal) x e) ↔ (x.id.number ≤ n)
  pub grows : (a b : Event) → IsDelivered w b → Reaches w.types (delivered_by w.journal) a b
      → (trace m n : ℕ) → IsNumber w a trace m → IsNumber w b trace n → m ≤ n
  pub own_history : (e : Event) → IsDelivered w e → (trace n : ℕ)
      → (IsClock w.types (all_events (history_of e.id (deliveries_by w.journal))) e trace n)
      ↔ (IsNumber w e trace n)
  pub entries : (e : Event) → IsDelivered w e
      → (trace : ℕ) → is_member w.clustering (deliveries_by w.journal) e.id trace ≡ false
      → (n : ℕ) → IsNumber w e trace n
      → IsGreatestOfEntries w.types w.clustering (deliveries_by w.journal) e trace n
  pub entry_reaches : (e : Event) → IsDelivered w e
      → (trace level n : ℕ) → IsNumber w e trace n
      → (r : Event) → IsLastAbove w.clustering (deliveries_by w.journal) trace level n r
      → Reaches w.types (delivered_by w.journal) r e
  pub entry_is_one : (trace level n : ℕ) (r other : Event)
      → IsLastAbove w.clustering (deliveries_by w.journal) trace level n r
      → IsLastAbove w.clustering (deliveries_by w.journal) trace level n other → r ≡ other
  pub level_least : (e : Event) → 1 ≤ level_of w.clustering (deliveries_by w.journal) e.id
  pub few_members : (e : Event)
      → level_of w.clustering (deliveries_by w.journal) e.id ≤ levels_of w.clustering
      → 1 ≤ size_at w.clustering (level_of w.clustering (deliveries_by w.journal) e.id)
      → length (members_of w.clustering (deliveries_by w.journal) e.id)
      ≤ size_at w.clustering (level_of w.clustering (deliveries_by w.journal) e.id)
  pub all_members : (e : Event)
      → levels_of w.clustering < level_of w.clustering (deliveries_by w.journal) e.id
      → length (members_of w.clustering (deliveries_by w.journal) e.id) ≡ w.clustering.traces
  pub bound_sizes : (sizes : List ℕ) (level size : ℕ) → slice_get sizes level ≡ Some size
      → bound_of (drop level sizes) ≡ 1 + size * bound_of (drop (suc level) sizes)
