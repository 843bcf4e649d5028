-- What a run leaves: a journal, a report for each collector, and the lines of each client.
use Rattle.std.specs.Prelude.{◌≡◌, ℕ, suc, false, List, [], ◌∷◌, length, Some}
use Rattle.causal_base.specs.declared.entry.Entry.{Entry}
use Rattle.causal_base.specs.declared.event.Event.{Event}
use Rattle.causal_base.specs.declared.limits.TheConstants.{MOST_EVENTS}
use Rattle.causal_base.specs.InTurn.{IsInTurn}
use Rattle.causal_base.specs.Journal.{IsSettled}
use Rattle.causal_base.specs.Types.{TypeTable}
use Rattle.client_session.specs.declared.command.Command.{Command}
use Rattle.client_session.specs.Replies.{Seen, seen_of}
use Rattle.event_book.specs.declared.setup.Setup.{Setup}
use Rattle.event_book.specs.Setups.{clustering_of, IsJournalOf}
use Rattle.poet_io.specs.SourceState.{SourceState}
use Rattle.poet_serve.specs.declared.report.ClientReport.{ClientReport}
use Rattle.poet_serve.specs.declared.report.CollectorReport.{CollectorReport}
use Rattle.poet_serve.specs.declared.report.Stop.{Stop}
use Rattle.poet_serve.specs.declared.report.Stop.TheVariants.{End, Full, Line, Memory, Read}
use Rattle.poet_serve.specs.Asking.{IsTold}
use Rattle.poet_serve.specs.Collecting.{IsPartOf, Told, told_by}
use Rattle.poet_serve.specs.Reading.{IsReadOf}

-- A source before and after a run, and what is told of its events.
pub record Collected : Type 0 where
  pub before : SourceState
  pub after : SourceState
  pub told : Told

-- the sources, and the reports of what became of them
abbrev pub collected_by : {S : Type 0} → (S → SourceState) → List S → List (CollectorReport S)
    → List Collected
collected_by state [] reports = []
collected_by state (source ∷ sources) [] = []
collected_by state (source ∷ sources) (report ∷ reports) = record {
  before = state source;
  after = state report.source;
  told = told_by report;
} ∷ collected_by state sources reports

-- each collector, from this number on, has its part in the journal
abbrev pub HaveParts : TypeTable → List Entry → ℕ → List Collected → Type 0
HaveParts types journal collector [] = Unit {0}
HaveParts types journal collector (one ∷ others) =
    IsPartOf types journal collector one.before one.after one.told
    × HaveParts types journal (suc collector) others

-- each client has lines for its script, on no fewer entries of the journal than these
abbrev pub AreToldFrom : Seen → (least : ℕ) → List (List Command) → List ClientReport → Type 0
AreToldFrom seen least [] [] = Unit {0}
AreToldFrom seen least [] (report ∷ reports) = ⊥
AreToldFrom seen least (script ∷ scripts) [] = ⊥
AreToldFrom seen least (script ∷ scripts) (report ∷ reports) =
    IsTold seen script least report.lines report.memory × AreToldFrom seen least scripts reports

-- each client has lines for its script
abbrev pub AreTold : Seen → List (List Command) → List ClientReport → Type 0
AreTold seen scripts reports = AreToldFrom seen 0 scripts reports

-- what is seen of a journal that a desk made
abbrev pub seen_by : Setup → List Entry → Seen
seen_by setup journal = seen_of setup.types (clustering_of setup) setup.collectors journal

-- A transcript: the journal is legal and has each collector's part, each client was told right, and
-- the closing script was told of the whole journal, which is settled, unless memory ran out.
pub record IsTranscript (setup : Setup) (journal : List Entry) (collectors : List Collected)
    (scripts : List (List Command)) (clients : List ClientReport)
    (last : List Command) (closing : ClientReport) : Type 0 where
  pub is_journal : IsJournalOf setup journal
  pub as_many : length collectors ≡ setup.collectors
  pub parts : HaveParts setup.types journal 0 collectors
  pub clients_are : AreTold (seen_by setup journal) scripts clients
  pub closing_is : IsTold (seen_by setup journal) last (length journal) closing.lines closing.memory
  pub settled : closing.memory ≡ false → IsSettled setup.types journal

-- the collector didn't stop for want of memory
abbrev pub HadMemory : Collected → Type 0
HadMemory one = one.told.stop ≡ Memory → ⊥

-- the lists have the events that each collector read
abbrev pub AreReadBy : TypeTable → List Collected → List (List Event) → Type 0
AreReadBy types [] [] = Unit {0}
AreReadBy types [] (events ∷ lists) = ⊥
AreReadBy types (one ∷ all) [] = ⊥
AreReadBy types (one ∷ all) (events ∷ lists) =
    IsReadOf types one.before one.after one.told.stop events × AreReadBy types all lists

-- One thread made the journal: it took the events that the collectors read, in turn.
pub record IsMadeInTurn (types : TypeTable) (all : List Collected) (journal : List Entry)
    : Type 0 where
  pub lists : List (List Event)
  pub read : AreReadBy types all lists
  pub in_turn : IsInTurn types MOST_EVENTS lists journal

-- the source stopped the collector: its end, a fault in it, or a failed read
abbrev pub IsOfSource : Stop → Type 0
IsOfSource End = Unit {0}
IsOfSource Read = Unit {0}
IsOfSource (Line error) = Unit {0}
IsOfSource (Full id) = ⊥
IsOfSource Memory = ⊥

-- What the source had and has left is told, and the source stopped the collector, neither the limit
-- nor want of memory.
pub record HasOneReading (one : Collected) : Type 0 where
  pub had : List ℕ
  pub had_is : one.before.left ≡ Some had
  pub left : List ℕ
  pub left_is : one.after.left ≡ Some left
  pub stop : IsOfSource one.told.stop
