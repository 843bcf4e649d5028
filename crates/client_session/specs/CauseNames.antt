use Rattle.std.specs.Prelude.{ℕ, List, codes}
use Rattle.client_session.specs.declared.script_error.ScriptCause.{ScriptCause}
use Rattle.client_session.specs.declared.script_error.ScriptCause.TheVariants.{TooLong, LongLine, Unended, TooManyLines, NoCommand, Shape, NotInClosing, BadId, NoTrace, BadNumber, Oom}

-- the printed name of a cause
abbrev pub cause_name : ScriptCause → List ℕ
cause_name TooLong = codes "TooLong"
cause_name LongLine = codes "LongLine"
cause_name Unended = codes "Unended"
cause_name TooManyLines = codes "TooManyLines"
cause_name NoCommand = codes "NoCommand"
cause_name Shape = codes "Shape"
cause_name NotInClosing = codes "NotInClosing"
cause_name BadId = codes "BadId"
cause_name NoTrace = codes "NoTrace"
cause_name BadNumber = codes "BadNumber"
cause_name Oom = codes "Oom"
