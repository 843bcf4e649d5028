-- What a client is told. A reply is one of a journal, and of the cut that the client's session is
-- at; nothing here speaks of who keeps the journal, or how.
use Rattle.std.specs.Prelude.{◌≡◌, ℕ, ◌*◌, ◌-◌, ◌<◌, ◌⊎◌, ◌↔◌, Bool, true, false, List, [], length, reverse, All, Contains, IsTrue, Option, None, Some, slice_index}
use Rattle.std.specs.List.{AllByRecursion, zip}
use Rattle.answer_text.specs.declared.reply.Reply.{Reply}
use Rattle.answer_text.specs.declared.reply.Reply.TheVariants as reply
use Rattle.causal_base.specs.declared.entry.Entry.{Entry}
use Rattle.causal_base.specs.declared.event.Event as event
use Rattle.causal_base.specs.declared.event_id.EventId.{EventId}
use Rattle.causal_base.specs.declared.related.Related.{Related}
use Rattle.causal_base.specs.declared.related.Related.TheVariants as related
use Rattle.causal_base.specs.Answers.{IsFirstMissing}
use Rattle.causal_base.specs.Asked.{SaysWhetherBefore}
use Rattle.causal_base.specs.Clusters.{Clustering}
use Rattle.causal_base.specs.History.{count_on}
use Rattle.causal_base.specs.Journal.{came_by, delivered_by, deliveries_by}
use Rattle.causal_base.specs.Past.{HasEnded, HasEvent}
use Rattle.causal_base.specs.Stamps.{ClusterTimestamp, IsStamp}
use Rattle.causal_base.specs.Types.{TypeTable}
use Rattle.causal_base.specs.Walks.{AreRelated}
use Rattle.cut_scroll.specs.Cuts.{IsGreatestWithout, IsIn, IsLeastWith, MovesFor}
use Rattle.cut_scroll.specs.Neighbours.{NamesGreatestBefore, NamesLeastAfter}
use Rattle.precedence.specs.Relations.{SaysOfTwo}
use Rattle.client_session.specs.declared.command.Command.{Command}
use Rattle.client_session.specs.declared.command.Command.TheVariants.{Before, Relation, Event, Stamp, GreatestBefore, LeastAfter, CutNone, CutAll, CutTo, CutBack, CutHas, Count, Await}
use Rattle.client_session.specs.Commands.{ids_of}

-- What a client sees: the types of the events, how their traces are clustered, how many collectors
-- there are, and the journal.
pub record Seen : Type 0 where
  pub types : TypeTable
  pub clustering : Clustering
  pub collectors : ℕ
  pub journal : List Entry

-- these, of such a journal
abbrev pub seen_of : TypeTable → Clustering → ℕ → List Entry → Seen
seen_of types clustering collectors journal = record {
  types = types;
  clustering = clustering;
  collectors = collectors;
  journal = journal;
}

-- the delivered events
abbrev pub delivered_in : Seen → List event.Event
delivered_in seen = delivered_by seen.journal

-- each collector has ended
abbrev pub HaveAllEnded : Seen → Type 0
HaveAllEnded seen =
    (collector : ℕ) → collector < seen.collectors → HasEnded (reverse seen.journal) collector

-- the ids of the events that have to be delivered for a reply other than 'not yet'
abbrev pub needed_by : Command → List EventId
needed_by (Await a) = []
needed_by command = ids_of command

abbrev pub yes_or_no : Bool → Reply
yes_or_no true = reply.Yes
yes_or_no false = reply.No

-- the id of an event that is looked for, if there is one
abbrev pub id_or_nothing : Option EventId → Reply
id_or_nothing None = reply.Nothing
id_or_nothing (Some id) = reply.Id id

-- the word for how one event lies to another
abbrev pub word_of : Related → Reply
word_of related.Before = reply.Before
word_of related.After = reply.After
word_of related.Concurrent = reply.Concurrent
word_of related.Same = reply.Same
word_of related.Partners = reply.Partners

-- whether an event is there, or may still come, or won't
abbrev pub IsAwaited : Seen → EventId → Reply → Type 0
IsAwaited seen a said = (HasEvent (delivered_in seen) a × (said ≡ reply.Here))
    ⊎ ((¬ HasEvent (delivered_in seen) a)
    × ((HaveAllEnded seen × (said ≡ reply.Closed))
    ⊎ ((¬ HaveAllEnded seen) × (said ≡ reply.Later))))

-- The reply shows this stamp of a delivered event with this id: its level, and a number for each of
-- its members.
pub record ShowsStamp (seen : Seen) (a : EventId) (said : Reply) : Type 0 where
  pub event : event.Event
  pub delivered : Contains (delivered_in seen) event
  pub id : event.id ≡ a
  pub stamp : ClusterTimestamp
  pub is_stamp : IsStamp seen.types seen.clustering (deliveries_by seen.journal) event stamp
  pub shows : said ≡ reply.Stamped stamp.level (zip stamp.members stamp.clock)

-- A cut over these traces has no event.
pub record IsEmptyCut (traces : ℕ) (cut : List ℕ) : Type 0 where
  pub as_many : length cut ≡ traces
  pub none : All (λ count. count ≡ 0) cut

-- A cut over the traces of these types has all of the events.
pub record IsWholeCut (types : TypeTable) (events : List event.Event) (cut : List ℕ) : Type 0 where
  pub as_many : length cut ≡ types.traces
  pub all : (trace : ℕ) → trace < types.traces → slice_index cut trace ≡ count_on trace events

-- What is said where all events are delivered that have to be, and the cut after it.
abbrev pub IsSaid : Seen → List ℕ → Command → Reply → List ℕ → Type 0
IsSaid seen cut (Before a b) said after = ((happened : Bool)
    × SaysWhetherBefore seen.types (delivered_in seen) a b happened
    × (said ≡ yes_or_no happened)) × (after ≡ cut)
IsSaid seen cut (Relation a b) said after = ((lies : Related)
    × SaysOfTwo (delivered_in seen) a b (λ x y. AreRelated seen.types (delivered_in seen) x y lies)
    × (said ≡ word_of lies)) × (after ≡ cut)
IsSaid seen cut (Event a) said after = ((e : event.Event)
    × Contains (delivered_in seen) e × (e.id ≡ a) × (said ≡ reply.Shown e)) × (after ≡ cut)
IsSaid seen cut (Stamp a) said after = ShowsStamp seen a said × (after ≡ cut)
IsSaid seen cut (GreatestBefore a trace) said after = ((found : Option EventId)
    × MovesFor (delivered_in seen) a
    (NamesGreatestBefore seen.types (delivered_in seen) trace found)
    × (said ≡ id_or_nothing found)) × (after ≡ cut)
IsSaid seen cut (LeastAfter a trace) said after = ((found : Option EventId)
    × MovesFor (delivered_in seen) a
    (NamesLeastAfter seen.types (delivered_in seen) trace found)
    × (said ≡ id_or_nothing found)) × (after ≡ cut)
IsSaid seen cut CutNone said after = IsEmptyCut seen.types.traces after × (said ≡ reply.Cut after)
IsSaid seen cut CutAll said after = IsWholeCut seen.types (delivered_in seen) after
    × (said ≡ reply.Cut after)
IsSaid seen cut (CutTo a) said after = MovesFor (delivered_in seen) a
    (λ e. IsLeastWith seen.types (delivered_in seen) cut e after) × (said ≡ reply.Cut after)
IsSaid seen cut (CutBack a) said after = MovesFor (delivered_in seen) a
    (λ e. IsGreatestWithout seen.types (delivered_in seen) cut e after) × (said ≡ reply.Cut after)
IsSaid seen cut (CutHas a) said after = ((has : Bool) × (IsTrue has ↔ IsIn cut a)
    × (said ≡ yes_or_no has)) × (after ≡ cut)
IsSaid seen cut Count said after = (said ≡ reply.Counted (length (came_by seen.journal))
    (length (delivered_in seen)) (length (came_by seen.journal) - length (delivered_in seen)))
    × (after ≡ cut)
IsSaid seen cut (Await a) said after = IsAwaited seen a said × (after ≡ cut)

-- The reply to a command, and the session's cut after it. Where an event isn't delivered that has
-- to be, the reply names the first such, and the cut stays.
abbrev pub IsReply : Seen → List ℕ → Command → Reply → List ℕ → Type 0
IsReply seen cut command said after = ((id : EventId)
    × IsFirstMissing (delivered_in seen) (needed_by command) id × (said ≡ reply.NotYet id)
    × (after ≡ cut))
    ⊎ (AllByRecursion (HasEvent (delivered_in seen)) (needed_by command)
    × IsSaid seen cut command said after)

-- The reply is this at any cut, which stays.
abbrev pub HasReply : Seen → Command → Reply → Type 0
HasReply seen command said = (cut : List ℕ) → IsReply seen cut command said cut

-- the reply takes memory
abbrev pub TakesMemory : Command → Type 0
TakesMemory (Event a) = Unit {0}
TakesMemory (Stamp a) = Unit {0}
TakesMemory CutNone = Unit {0}
TakesMemory CutAll = Unit {0}
TakesMemory (CutTo a) = Unit {0}
TakesMemory (CutBack a) = Unit {0}
TakesMemory command = ⊥

-- how many components or clocks a reply takes at most, over so many traces
abbrev pub most_asked : ℕ → Command → ℕ
most_asked traces (Before a b) = 1
most_asked traces (Relation a b) = 2
most_asked traces (GreatestBefore a trace) = 1
most_asked traces (LeastAfter a trace) = 20
most_asked traces (CutTo a) = 1
most_asked traces (CutBack a) = 20 * traces
most_asked traces command = 0
