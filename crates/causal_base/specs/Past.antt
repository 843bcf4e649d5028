use Rattle.std.specs.Prelude.{◌≡◌, ℕ, Bool, ◌==◌, ◌&&◌, ◌≤◌, ◌⊎◌, List, [], ◌∷◌, ◌++◌, Contains, find, Option, Some, option_and_then, option_to_list}
use Rattle.std.specs.List.{AllByRecursion}
use Rattle.std.specs.Option.{option_map}
use Rattle.causal_base.specs.declared.block.Block.{Block}
use Rattle.causal_base.specs.declared.block.Block.TheVariants.{One, Two}
use Rattle.causal_base.specs.declared.entry.Entry.{Entry}
use Rattle.causal_base.specs.declared.entry.Entry.TheVariants.{Came, Gone, Pair, Ended}
use Rattle.causal_base.specs.declared.event.Event.{Event}
use Rattle.causal_base.specs.declared.event_id.EventId.{EventId}
use Rattle.causal_base.specs.Types.{TypeTable}
use Rattle.causal_base.specs.Event.{IsFit}
use Rattle.causal_base.specs.History.{EventBlock, alone, together, events_of, all_events, MayFollow, IsCausal}

-- Here a past is entries of a journal with the newest first.

-- the events that came
abbrev pub came : List Entry → List Event
came [] = []
came (Came collector e ∷ past) = e ∷ came past
came (Gone a ∷ past) = came past
came (Pair a b ∷ past) = came past
came (Ended collector ∷ past) = came past

-- whether two ids are one
abbrev pub is_same_id : EventId → EventId → Bool
is_same_id a b = (a.trace == b.trace) && (a.number == b.number)

-- the event with this id, where there is one
abbrev pub event_of : List Event → EventId → Option Event
event_of events id = find (λ e. is_same_id id e.id) events

-- there is an event with this id
abbrev pub HasEvent : List Event → EventId → Type 0
HasEvent events id = (e : Event) × Contains events e × (e.id ≡ id)

-- what a block delivers of these events, where it names some of them
abbrev pub delivery_of : List Event → Block → Option EventBlock
delivery_of events (One a) = option_map alone (event_of events a)
delivery_of events (Two a b) = option_and_then (λ x. option_map (together x) (event_of events b))
    (event_of events a)

-- the deliveries of a past, newest first
abbrev pub deliveries : List Entry → List EventBlock
deliveries [] = []
deliveries (Came collector e ∷ past) = deliveries past
deliveries (Gone a ∷ past) = option_to_list (delivery_of (came past) (One a)) ++ deliveries past
deliveries (Pair a b ∷ past) = option_to_list (delivery_of (came past) (Two a b)) ++ deliveries past
deliveries (Ended collector ∷ past) = deliveries past

-- the events that were delivered
abbrev pub delivered : List Entry → List Event
delivered past = all_events (deliveries past)

-- the collector said that it brings no more
abbrev pub HasEnded : List Entry → ℕ → Type 0
HasEnded past collector = Contains past (Ended collector)

-- A block is enabled among events that came, after deliveries, when its events came and aren't
-- delivered, and they may follow what was delivered.
pub record IsEnabledAmong (types : TypeTable) (events : List Event) (history : List EventBlock)
    (block : Block) : Type 0 where
  pub delivery : EventBlock
  pub came_in : delivery_of events block ≡ Some delivery
  pub waiting : AllByRecursion (λ e. Contains (all_events history) e → ⊥) (events_of delivery)
  pub may_follow : MayFollow types history delivery

-- it is enabled after a past
abbrev pub IsEnabled : TypeTable → List Entry → Block → Type 0
IsEnabled types past block = IsEnabledAmong types (came past) (deliveries past) block

-- the block has an event of this trace
abbrev pub HasTrace : Block → ℕ → Type 0
HasTrace (One a) trace = a.trace ≡ trace
HasTrace (Two a b) trace = (a.trace ≡ trace) ⊎ (b.trace ≡ trace)

-- Next is the enabled block that has the lowest trace of all enabled blocks.
pub record IsNextAmong (types : TypeTable) (events : List Event) (history : List EventBlock)
    (block : Block) : Type 0 where
  pub enabled : IsEnabledAmong types events history block
  pub trace : ℕ
  pub has_trace : HasTrace block trace
  pub lowest : (other : Block) (its : ℕ) → IsEnabledAmong types events history other
      → HasTrace other its → trace ≤ its

abbrev pub IsNext : TypeTable → List Entry → Block → Type 0
IsNext types past block = IsNextAmong types (came past) (deliveries past) block

-- nothing that came could be delivered
abbrev pub HasNoNextAmong : TypeTable → List Event → List EventBlock → Type 0
HasNoNextAmong types events history =
    (block : Block) → IsEnabledAmong types events history block → ⊥

abbrev pub HasNoNext : TypeTable → List Entry → Type 0
HasNoNext types past = HasNoNextAmong types (came past) (deliveries past)

-- What delivering rests on, whether or not a legal journal is behind it: the events that came are
-- fit and have ids of their own, and the deliveries are causal, and of events that came.
pub record IsHistoryOf (types : TypeTable) (events : List Event) (history : List EventBlock)
    : Type 0 where
  pub fit : (e : Event) → Contains events e → IsFit types e
  pub own_ids : (x y : Event) → Contains events x → Contains events y → x.id ≡ y.id → x ≡ y
  pub causal : IsCausal types history
  pub came_first : (e : Event) → Contains (all_events history) e → Contains events e

-- An event may come when nothing that came before could be delivered, it is fit, its id is new, and
-- its collector hasn't ended.
pub record MayCome (types : TypeTable) (past : List Entry) (collector : ℕ) (e : Event)
    : Type 0 where
  pub settled : HasNoNext types past
  pub fit : IsFit types e
  pub new : HasEvent (came past) e.id → ⊥
  pub open_yet : HasEnded past collector → ⊥

-- the entry may stand next in the journal
abbrev pub MayStand : TypeTable → List Entry → Entry → Type 0
MayStand types past (Came collector e) = MayCome types past collector e
MayStand types past (Gone a) = IsNext types past (One a)
MayStand types past (Pair a b) = IsNext types past (Two a b)
MayStand types past (Ended collector) = HasEnded past collector → ⊥

-- each entry may stand after those before it
abbrev pub IsLegalPast : TypeTable → List Entry → Type 0
IsLegalPast types [] = Unit {0}
IsLegalPast types (entry ∷ past) = MayStand types past entry × IsLegalPast types past
