-- What one thread has taken of a collector's events, and counted, so far.
use Rattle.std.specs.Prelude.{◌≡◌, ◌≢◌, ◌⊎◌, ℕ, ◌+◌, List, [], ◌∷◌, ◌++◌, length, take}
use Rattle.causal_base.specs.declared.entry.Entry.{Entry}
use Rattle.causal_base.specs.declared.entry.Entry.TheVariants.{Ended}
use Rattle.causal_base.specs.declared.event.Event.{Event}
use Rattle.causal_base.specs.declared.event_id.EventId.{EventId}
use Rattle.causal_base.specs.Journal.{IsSettled}
use Rattle.causal_base.specs.Types.{TypeTable}
use Rattle.event_book.specs.declared.report.FeedReport.{FeedReport}
use Rattle.event_book.specs.Feeding.{no_report, Takes}
use Rattle.poet_io.specs.SourceState.{SourceState}
use Rattle.raw_reader.specs.declared.cause.LineCause.TheVariants.{Oom}
use Rattle.raw_reader.specs.declared.cause.LineError.{LineError}
use Rattle.raw_reader.specs.ReaderState.{ReaderState}
use Rattle.raw_reader.specs.Texts.{events_of}
use Rattle.poet_serve.specs.declared.limits.TheConstants.{MOST_CLASHES_NAMED}
use Rattle.poet_serve.specs.declared.report.Stop.{Stop}
use Rattle.poet_serve.specs.declared.report.Stop.TheVariants.{Line, Full, Memory}
use Rattle.poet_serve.specs.Collecting.{MeetsLimitAt, Told, told_of}
use Rattle.poet_serve.specs.Reading.{AreReadOf, IsReadOf}

-- counts, with the first ids of those that clashed
pub record TallyState : Type 0 where
  pub accepted : ℕ
  pub repeats : ℕ
  pub clashes : ℕ
  pub first : List EventId

abbrev pub tally_of : FeedReport → TallyState
tally_of counted = record {
  accepted = counted.accepted;
  repeats = counted.repeats;
  clashes = length counted.clashes;
  first = take MOST_CLASHES_NAMED counted.clashes;
}

-- how many events were counted
abbrev pub total_of : TallyState → ℕ
total_of tally = tally.accepted + tally.repeats + tally.clashes

-- the counts of two lists of events, one behind the other
abbrev pub both : FeedReport → FeedReport → FeedReport
both earlier later = record {
  accepted = earlier.accepted + later.accepted;
  repeats = earlier.repeats + later.repeats;
  clashes = earlier.clashes ++ later.clashes;
}

-- One collector's events were taken from one journal to another, and counted.
pub record HasTaken (types : TypeTable) (collector : ℕ) (start : List Entry) (events : List Event)
    (journal : List Entry) (tally : TallyState) : Type 0 where
  pub counted : FeedReport
  pub takes : Takes types collector events start no_report journal counted
  pub tally_is : tally ≡ tally_of counted

-- A reader that has read these bytes has handed out batches, and their events were taken.
pub record HasTakenFrom (Stands : ReaderState → List ℕ → List (List Event) → Type 0)
    (collector : ℕ) (start : List Entry) (reader : ReaderState) (fed : List ℕ)
    (journal : List Entry) (tally : TallyState) : Type 0 where
  pub batches : List (List Event)
  pub stands : Stands reader fed batches
  pub taken : HasTaken reader.types collector start (events_of batches) journal tally
  pub settled : IsSettled reader.types start → IsSettled reader.types journal

-- Some of these events were taken, and then it stopped: at one that met the limit, or for want of
-- memory.
abbrev pub IsCutShort : TypeTable → ℕ → List Entry → List Event → List Entry → TallyState → Stop
    → Type 0
IsCutShort types collector start all journal tally (Full id) = (events : List Event) × (e : Event)
    × (others : List Event) × (all ≡ events ++ e ∷ others) × (e.id ≡ id)
    × HasTaken types collector start events journal tally × MeetsLimitAt journal (Full id)
    × IsSettled types journal
IsCutShort types collector start all journal tally Memory = (events : List Event)
    × (others : List Event) × (all ≡ events ++ others)
    × HasTaken types collector start events journal tally
IsCutShort types collector start all journal tally stop = ⊥

-- It stopped, with this left of the bytes that it had: the events that it read were taken.
pub record IsStopped (types : TypeTable) (collector : ℕ) (start : List Entry)
    (bytes left : List ℕ) (stop : Stop) (journal : List Entry) (tally : TallyState) : Type 0 where
  pub events : List Event
  pub read : AreReadOf types bytes left stop events
  pub taken : HasTaken types collector start events journal tally
  pub limit : MeetsLimitAt journal stop
  pub settled : (stop ≡ Memory → ⊥) → IsSettled types start → IsSettled types journal

-- why it stops that met this at a line: memory ran out, or it is the line's fault
abbrev pub IsStopOf : LineError → Stop → Type 0
IsStopOf error stop = ((error.cause ≡ Oom) × (stop ≡ Memory))
    ⊎ ((error.cause ≢ Oom) × (stop ≡ Line error))

-- A source was read until something stopped it, and the events that were read were taken.
pub record HasBrought (types : TypeTable) (collector : ℕ) (start : List Entry)
    (before after : SourceState) (stop : Stop) (journal : List Entry) (tally : TallyState)
    : Type 0 where
  pub events : List Event
  pub read : IsReadOf types before after stop events
  pub taken : HasTaken types collector start events journal tally
  pub limit : MeetsLimitAt journal stop
  pub settled : (stop ≡ Memory → ⊥) → IsSettled types start → IsSettled types journal

-- It was, and then the collector ended.
pub record HasCollected (types : TypeTable) (collector : ℕ) (before after : SourceState)
    (told : Told) (start journal : List Entry) : Type 0 where
  pub events : List Event
  pub read : IsReadOf types before after told.stop events
  pub counted : FeedReport
  pub until_end : List Entry
  pub takes : Takes types collector events start no_report until_end counted
  pub told_is : told ≡ told_of counted told.stop
  pub ends : journal ≡ until_end ++ Ended collector ∷ []
  pub limit : MeetsLimitAt until_end told.stop
  pub settled : (told.stop ≡ Memory → ⊥) → IsSettled types start → IsSettled types until_end
