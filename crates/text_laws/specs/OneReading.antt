-- What is known of what a run says, and what two that say the same have in common.
use Rattle.std.specs.Prelude.{◌≡◌, ◌<◌, ◌^◌, List, map}
use Rattle.std.specs.List.{AllByRecursion}
use Rattle.causal_base.specs.declared.event_id.EventId.{EventId}
use Rattle.event_book.specs.Setups.{IsSetup}
use Rattle.poet_serve.specs.declared.report.Stop.{Stop}
use Rattle.poet_serve.specs.declared.report.Stop.TheVariants.{Full, Line}
use Rattle.poet_serve.specs.Collecting.{Told}
use Rattle.poet_serve.specs.Transcripts.{Collected, IsTranscript}
use Rattle.run_text.specs.Runs.{RunTold, status_of}

-- the numbers of an id fit their types
abbrev pub FitsId : EventId → Type 0
FitsId id = (id.trace < 2 ^ 32) × (id.number < 2 ^ 32)

-- the numbers of what stopped a collector fit their types
abbrev pub FitsStop : Stop → Type 0
FitsStop (Line error) = error.line < 2 ^ 64
FitsStop (Full id) = FitsId id
FitsStop stop = Unit {0}

-- How many events of a collector were repeats and clashed, and the numbers of what stopped it, fit
-- their types.
pub record FitsTold (told : Told) : Type 0 where
  pub repeats : told.repeats < 2 ^ 64
  pub clashes : told.clashes < 2 ^ 64
  pub stop : FitsStop told.stop

-- What a run says, to somebody who knows the scripts: a desk was made as a desk may be, a
-- transcript was left, and what is told of the collectors is what the transcript says of them. The
-- numbers that nothing of this bounds fit their types.
pub record IsOfRun (told : RunTold) : Type 0 where
  pub is_setup : IsSetup told.setup
  pub collected : List Collected
  pub is_transcript : IsTranscript told.setup told.journal collected told.scripts told.clients
      told.last told.closing
  pub collectors_are : told.collectors ≡ map (λ one. one.told) collected
  pub after : told.setup.after < 2 ^ 32
  pub numbers : AllByRecursion FitsTold told.collectors

-- Two runs say the same: the sizes of the levels and from when on clusters merge, the journal, the
-- lines of each client and of the closing script, what is told of each collector, and the status.
pub record SaySame (told other : RunTold) : Type 0 where
  pub sizes : told.setup.sizes ≡ other.setup.sizes
  pub after : told.setup.after ≡ other.setup.after
  pub journal : told.journal ≡ other.journal
  pub clients : map (λ client. client.lines) told.clients
      ≡ map (λ client. client.lines) other.clients
  pub closing : told.closing.lines ≡ other.closing.lines
  pub collectors : told.collectors ≡ other.collectors
  pub status : status_of told ≡ status_of other
