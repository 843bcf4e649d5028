use Rattle.std.specs.Prelude.{◌≡◌, ℕ, Bool, List, ◌++◌, ◌⊎◌, codes, decimal}
use Rattle.causal_base.specs.declared.answer.Answer.{Answer}
use Rattle.answer_text.specs.Texts.{text_of_answer}
use Rattle.load_run.specs.declared.loaded.Loaded.{Loaded}
use Rattle.load_run.specs.LoadTexts.{text_of_load}
use Rattle.raw_reader.specs.declared.cause.LineError.{LineError}
use Rattle.raw_reader.specs.CauseNames.{cause_name}
use Rattle.poet_io.specs.SinkState.{SinkState}
use Rattle.poet_io.specs.Writes.{IsWritten, IsCutShort}
use Rattle.run_files.specs.Troubles.{Trouble, status_of_trouble, text_of_trouble}
use Rattle.run_text.specs.Runs.{RunTold, text_of}
use Rattle.run_text.specs.Runs.{status_of as status_of_run}

-- What the program can end with, if what it writes can be written: an answer; words that ask for
-- nothing; what keeps a question from its answer; what kept a run from beginning; a run; or what
-- came of a load.
pub data Outcome : Type 0 where
  Answered : Answer Bool → Outcome
  NoPlan : Outcome
  NotOpened : (name : List ℕ) → Outcome
  NotRead : (name : List ℕ) → Outcome
  BadLine : LineError → Outcome
  NoMemory : Outcome
  ManyIds : Outcome
  NotBegun : Trouble → Outcome
  Ran : RunTold → Outcome
  HasLoaded : Loaded → Outcome

-- its status
abbrev pub status_of : Outcome → ℕ
status_of (Answered answer) = 0
status_of NoPlan = 1
status_of (NotOpened name) = 2
status_of (NotRead name) = 2
status_of (BadLine error) = 6
status_of NoMemory = 7
status_of ManyIds = 8
status_of (NotBegun trouble) = status_of_trouble trouble
status_of (Ran told) = status_of_run told
status_of (HasLoaded told) = 0

-- what is written
abbrev pub text_of_outcome : Outcome → List ℕ
text_of_outcome (Answered answer) = text_of_answer answer ++ codes "\n"
text_of_outcome NoPlan = codes "poet: words\n"
text_of_outcome (NotOpened name) = codes "poet: open " ++ name ++ codes "\n"
text_of_outcome (NotRead name) = codes "poet: read " ++ name ++ codes "\n"
text_of_outcome (BadLine error) = codes "poet: line "
    ++ (decimal error.line ++ (codes " " ++ cause_name error.cause ++ codes "\n"))
text_of_outcome NoMemory = codes "poet: memory\n"
text_of_outcome ManyIds = codes "poet: full\n"
text_of_outcome (NotBegun trouble) = text_of_trouble trouble
text_of_outcome (Ran told) = text_of told
text_of_outcome (HasLoaded told) = text_of_load told

-- The text of the outcome was written, and the status is its own; or it was cut short where a write
-- failed, and the status is 3.
abbrev pub IsTold : Outcome → ℕ → SinkState → SinkState → Type 0
IsTold outcome status before after =
    (IsWritten before after (text_of_outcome outcome) × (status ≡ status_of outcome))
    ⊎ (IsCutShort before after (text_of_outcome outcome) × (status ≡ 3))
