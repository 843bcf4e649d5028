-- A sink to which nothing was written.
use Rattle.std.proofs.Common.{List, ℕ, [], Option, Some, None, refl, sym, ap, append-nil}
use Rattle.poet_io.specs.Grows.{Grows}
use Rattle.poet_io.specs.SinkState.{SinkState}
use Rattle.poet_io.specs.Writes.{IsWritten}

Grows-none : (taken : Option (List ℕ)) → Grows taken taken []
Grows-none None = refl
Grows-none (Some bytes) = ap Some (sym (append-nil bytes))

-- no bytes were written
pub none_written : (state : SinkState) → IsWritten state state []
none_written state = record { all = Grows-none state.taken; no_fault = refl }
