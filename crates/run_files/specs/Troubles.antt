-- Why a run didn't begin, and what is written then.
use Rattle.std.specs.Prelude.{ℕ, List, [], ◌++◌, codes, decimal, Option, None, Some}
use Rattle.client_session.specs.CauseNames.{cause_name}
use Rattle.client_session.specs.declared.script_error.ScriptError.{ScriptError}
use Rattle.target_desc.specs.declared.target_error.TargetError.{TargetError}
use Rattle.target_desc.specs.RefusalNames.{refusal_name, refusal_number}
use Rattle.run_files.specs.declared.fault.Asker.{Asker}
use Rattle.run_files.specs.declared.fault.Asker.TheVariants.{Client, Closing}
use Rattle.poet_io.specs.declared.files.OpenError.{OpenError}
use Rattle.poet_io.specs.declared.files.OpenError.TheVariants as open_error
use Rattle.run_files.specs.declared.fault.Fault.{Fault}
use Rattle.run_files.specs.declared.fault.Fault.TheVariants as fault

-- A file wasn't opened or read, or isn't what it should be; or memory ran out.
pub data Trouble : Type 0 where
  NotOpened : (name : List ℕ) → Trouble
  NotRead : (name : List ℕ) → Trouble
  TargetRefused : TargetError → Trouble
  ScriptRefused : Asker → ScriptError → Trouble
  NoMemory : Trouble

-- the trouble that a fault is
abbrev pub trouble_of : Fault → Trouble
trouble_of (fault.Open name) = NotOpened name.now
trouble_of (fault.Read name) = NotRead name.now
trouble_of (fault.Target error) = TargetRefused error
trouble_of (fault.Script asker error) = ScriptRefused asker error
trouble_of fault.Memory = NoMemory

-- the trouble where the file of this name wasn't opened
abbrev pub trouble_of_opening : OpenError → (name : List ℕ) → Trouble
trouble_of_opening open_error.Absent name = NotOpened name
trouble_of_opening open_error.Failed name = NotOpened name
trouble_of_opening open_error.Oom name = NoMemory

-- its status
abbrev pub status_of_trouble : Trouble → ℕ
status_of_trouble (NotOpened name) = 2
status_of_trouble (NotRead name) = 2
status_of_trouble (TargetRefused error) = 4
status_of_trouble (ScriptRefused asker error) = 5
status_of_trouble NoMemory = 7

-- the number behind the name of a refusal, where it has one
abbrev pub number_text : Option ℕ → List ℕ
number_text None = []
number_text (Some number) = codes " " ++ decimal number

-- whose script it is, at the head of a line
abbrev pub asker_text : Asker → List ℕ
asker_text (Client number) = codes "poet: client " ++ decimal number ++ codes " "
asker_text Closing = codes "poet: closing "

-- what is written
abbrev pub text_of_trouble : Trouble → List ℕ
text_of_trouble (NotOpened name) = codes "poet: open " ++ name ++ codes "\n"
text_of_trouble (NotRead name) = codes "poet: read " ++ name ++ codes "\n"
text_of_trouble (TargetRefused error) = codes "poet: target " ++ refusal_name error
    ++ (number_text (refusal_number error) ++ codes "\n")
text_of_trouble (ScriptRefused asker error) = asker_text asker
    ++ (decimal error.line ++ (codes " " ++ cause_name error.cause ++ codes "\n"))
text_of_trouble NoMemory = codes "poet: memory\n"
