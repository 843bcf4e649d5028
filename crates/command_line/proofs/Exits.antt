use Rattle.std.proofs.Common.{Option, Some, None}
use Rattle.std.specs.Prelude.{IfNone}

-- what holds, holds at none
pub if_none : {T P : Type 0} (result : Option T) → P → IfNone result P
if_none None holds = holds
if_none (Some value) holds = tt
