use Rattle.std.specs.Prelude.{◌≡◌, ◌≢◌, ◌<◌, ◌≤◌, ◌⊎◌, ◌↔◌, length, Contains, Some, IsSome, IfSome}
use Rattle.causal_base.specs.declared.event.Event.{Event}
use Rattle.causal_base.specs.declared.event_id.EventId.{EventId}
use Rattle.causal_base.specs.declared.kind.Kind.{Kind}
use Rattle.causal_base.specs.declared.kind.Kind.TheVariants.{Unary, Send, Receive, Sync, Watch}
use Rattle.causal_base.specs.declared.limits.TheConstants.{MOST_NUMBER, MOST_TEXT, NUMBER_BOUND}
use Rattle.causal_base.specs.Types.{TypeTable, kind_of, AreMates}

-- the event is of a type that does this
abbrev pub IsOfKind : TypeTable → Event → Kind → Type 0
IsOfKind types e kind = kind_of types e.type_no ≡ Some kind

-- the first event names the second
abbrev pub Names : Event → Event → Type 0
Names a b = a.mate ≡ Some b.id

-- A message arrived: a receive names its send, and their types are mates.
pub record Delivers (types : TypeTable) (receive send : Event) : Type 0 where
  pub receives : IsOfKind types receive Receive
  pub sends : IsOfKind types send Send
  pub mates : AreMates types receive.type_no send.type_no

-- The later event names the earlier one, and is a receive of that send, or watches it.
pub record Fits (types : TypeTable) (later earlier : Event) : Type 0 where
  pub names : Names later earlier
  pub kinds : Delivers types later earlier ⊎ IsOfKind types later Watch

-- Two events on different traces are one thing that both traces did: each names the other.
pub record Pairs (types : TypeTable) (a b : Event) : Type 0 where
  pub traces : a.id.trace ≢ b.id.trace
  pub forth : Names a b
  pub back : Names b a
  pub first : IsOfKind types a Sync
  pub second : IsOfKind types b Sync
  pub mates : AreMates types a.type_no b.type_no

-- the kinds whose events name another event
abbrev pub NamesAnother : Kind → Type 0
NamesAnother Unary = ⊥
NamesAnother Send = ⊥
NamesAnother Receive = Unit {0}
NamesAnother Sync = Unit {0}
NamesAnother Watch = Unit {0}

-- an id of one of the traces, with a number from 1 to 1,000,000
pub record IsInRange (types : TypeTable) (id : EventId) : Type 0 where
  pub trace : id.trace < types.traces
  pub least : 1 ≤ id.number
  pub most : id.number ≤ MOST_NUMBER

-- What every event that is taken in meets: ids in range, a mate exactly where its kind names
-- another event, a time below 10^18, and a text of at most 200 bytes without a line feed.
pub record IsFit (types : TypeTable) (e : Event) : Type 0 where
  pub id : IsInRange types e.id
  pub kind : Kind
  pub is_of_kind : IsOfKind types e kind
  pub mate : IsSome e.mate ↔ NamesAnother kind
  pub mate_in_range : IfSome e.mate (IsInRange types)
  pub time : e.time < NUMBER_BOUND
  pub text_length : length e.text ≤ MOST_TEXT
  pub one_line : Contains e.text 10 → ⊥
