use Rattle.std.specs.Prelude.{ℕ, List, codes}
use Rattle.raw_reader.specs.declared.cause.LineCause.{LineCause}
use Rattle.raw_reader.specs.declared.cause.LineCause.TheVariants.{TooLarge, LongLine, Unended, Shape, BadId, NoTrace, BadNumber, NoType, MateGiven, MateMissing, BadTime, LongText, Oom}

-- the printed name of a cause
abbrev pub cause_name : LineCause → List ℕ
cause_name TooLarge = codes "TooLarge"
cause_name LongLine = codes "LongLine"
cause_name Unended = codes "Unended"
cause_name Shape = codes "Shape"
cause_name BadId = codes "BadId"
cause_name NoTrace = codes "NoTrace"
cause_name BadNumber = codes "BadNumber"
cause_name NoType = codes "NoType"
cause_name MateGiven = codes "MateGiven"
cause_name MateMissing = codes "MateMissing"
cause_name BadTime = codes "BadTime"
cause_name LongText = codes "LongText"
cause_name Oom = codes "Oom"
