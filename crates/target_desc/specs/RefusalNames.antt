use Rattle.std.specs.Prelude.{ℕ, List, Option, None, Some, codes}
use Rattle.target_desc.specs.declared.target_error.TargetError.{TargetError}
use Rattle.target_desc.specs.declared.target_error.TargetError.TheVariants.{TooLong, NotToml, NoTraces, TooManyTraces, BadTrace, TwiceTrace, NoTypes, TooManyTypes, BadType, TwiceType, BadKind, MateNeeded, MateGiven, MateUnknown, MateNotMutual, StrayKey, Oom}

-- the printed name of a refusal
abbrev pub refusal_name : TargetError → List ℕ
refusal_name TooLong = codes "TooLong"
refusal_name NotToml = codes "NotToml"
refusal_name NoTraces = codes "NoTraces"
refusal_name (TooManyTraces n) = codes "TooManyTraces"
refusal_name (BadTrace i) = codes "BadTrace"
refusal_name (TwiceTrace i) = codes "TwiceTrace"
refusal_name NoTypes = codes "NoTypes"
refusal_name (TooManyTypes n) = codes "TooManyTypes"
refusal_name (BadType i) = codes "BadType"
refusal_name (TwiceType i) = codes "TwiceType"
refusal_name (BadKind i) = codes "BadKind"
refusal_name (MateNeeded i) = codes "MateNeeded"
refusal_name (MateGiven i) = codes "MateGiven"
refusal_name (MateUnknown i) = codes "MateUnknown"
refusal_name (MateNotMutual i) = codes "MateNotMutual"
refusal_name StrayKey = codes "StrayKey"
refusal_name Oom = codes "Oom"

-- the number that is printed behind it, where it has one
abbrev pub refusal_number : TargetError → Option ℕ
refusal_number TooLong = None
refusal_number NotToml = None
refusal_number NoTraces = None
refusal_number (TooManyTraces n) = Some n
refusal_number (BadTrace i) = Some i
refusal_number (TwiceTrace i) = Some i
refusal_number NoTypes = None
refusal_number (TooManyTypes n) = Some n
refusal_number (BadType i) = Some i
refusal_number (TwiceType i) = Some i
refusal_number (BadKind i) = Some i
refusal_number (MateNeeded i) = Some i
refusal_number (MateGiven i) = Some i
refusal_number (MateUnknown i) = Some i
refusal_number (MateNotMutual i) = Some i
refusal_number StrayKey = None
refusal_number Oom = None
