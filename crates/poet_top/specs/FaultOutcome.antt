use Rattle.std.specs.Prelude.{◌≡◌, ◌≢◌, ◌⊎◌, ℕ, Bool, List, Result, Ok, Err}
use Rattle.causal_base.specs.declared.answer.Answer.{Answer}
use Rattle.causal_base.specs.Types.{TypeTable}
use Rattle.poet_io.specs.declared.files.OpenError.{OpenError}
use Rattle.poet_io.specs.declared.files.OpenError.TheVariants as open_error
use Rattle.poet_io.specs.Faults.{IsRaised}
use Rattle.raw_reader.specs.declared.cause.LineCause.TheVariants as line_cause
use Rattle.raw_reader.specs.declared.cause.LineError.{LineError}
use Rattle.poet_top.specs.declared.fault.Fault.{Fault}
use Rattle.poet_top.specs.declared.fault.Fault.TheVariants.{Words, Open, Read, Line, Memory, Full}
use Rattle.poet_top.specs.Ask.{HasBadLine, HasManyIds, IsUndecidedUpTo, IsReadNoFurther}
use Rattle.poet_top.specs.Outcome.{Outcome, Answered, NoPlan, NotOpened, NotRead, BadLine, NoMemory, ManyIds}

-- the outcome that a fault is
abbrev pub outcome_of_fault : Fault → Outcome
outcome_of_fault Words = NoPlan
outcome_of_fault (Open name) = NotOpened name.now
outcome_of_fault (Read name) = NotRead name.now
outcome_of_fault (Line error) = BadLine error
outcome_of_fault Memory = NoMemory
outcome_of_fault Full = ManyIds

-- the outcome that an answer or a fault is
abbrev pub outcome_of : Result (Answer Bool) Fault → Outcome
outcome_of (Ok answer) = Answered answer
outcome_of (Err fault) = outcome_of_fault fault

-- when a fault shows in the bytes of a source; want of memory has no cause that is told
abbrev pub ShowsFault : TypeTable → List ℕ → Fault → Type 0
ShowsFault types bytes Words = ⊥
ShowsFault types bytes (Open name) = ⊥
ShowsFault types bytes (Read name) = ⊥
ShowsFault types bytes (Line error) = HasBadLine types bytes error
ShowsFault types bytes Memory = Unit {0}
ShowsFault types bytes Full = HasManyIds types bytes

-- when there is no answer over the bytes of a source, of which this was left: what was read before
-- a read failed shows no fault, and no more was read than the piece in which one shows
abbrev pub HasNoAnswer : TypeTable → (bytes left : List ℕ) → Fault → Type 0
HasNoAnswer types bytes left Words = ⊥
HasNoAnswer types bytes left (Open name) = ⊥
HasNoAnswer types bytes left (Read name) = IsUndecidedUpTo types bytes left
HasNoAnswer types bytes left (Line error) =
    HasBadLine types bytes error × IsReadNoFurther types bytes left
HasNoAnswer types bytes left Memory = Unit {0}
HasNoAnswer types bytes left Full = HasManyIds types bytes × IsReadNoFurther types bytes left

-- A fault over an open file of this name: a read of it failed and raised the count of its faults,
-- or it left the count.
abbrev pub CountsFault : List ℕ → Fault → (old new : ℕ) → Type 0
CountsFault name Words old new = ⊥
CountsFault name (Open its) old new = ⊥
CountsFault name (Read its) old new = (its.now ≡ name) × IsRaised old new
CountsFault name (Line error) old new = new ≡ old
CountsFault name Memory old new = new ≡ old
CountsFault name Full old new = new ≡ old

-- the fault that a reader's refusal is: want of memory, or the line
abbrev pub IsFaultOf : LineError → Fault → Type 0
IsFaultOf error fault = ((error.cause ≡ line_cause.Oom) × (fault ≡ Memory))
    ⊎ ((error.cause ≢ line_cause.Oom) × (fault ≡ Line error))

-- the outcome where the file of this name wasn't opened
abbrev pub outcome_of_open : OpenError → List ℕ → Outcome
outcome_of_open open_error.Absent name = NotOpened name
outcome_of_open open_error.Failed name = NotOpened name
outcome_of_open open_error.Oom name = NoMemory
