use Rattle.std.proofs.Common.{◌≡◌, Result, Ok, Err, sym, subst}
use Rattle.std.specs.Prelude.{IfErr, IsErrAnd}

-- what holds of a value holds of the error that is this value
pub if_err_from : {T E : Type 0} (P : E → Type 0) (result : Result T E) (value : E) → IsErrAnd result (λ error. error ≡ value) → P value → IfErr result P
if_err_from P (Ok other) value is holds = tt
if_err_from P (Err error) value is holds = subst P (sym is) holds
