use Rattle.std.proofs.Common.{◌≡◌, Option, None, Some, IfNone, IfErr, Result, Ok, Err, true, false, sym, subst}
use Rattle.std.specs.Prelude.{IsErrAnd, OnOk, OnErr}
use Rattle.std.specs.Result.{is_err}

-- what holds in any case holds for a `None`
pub if_none : {T : Type 0} (P : Type 0) (o : Option T) → P → IfNone o P
if_none P None h = h
if_none P (Some x) h = tt

-- what holds of a value holds of the error that is this value
pub if_err_from : {T E : Type 0} (P : E → Type 0) (result : Result T E) (value : E) → IsErrAnd result (λ error. error ≡ value) → P value → IfErr result P
if_err_from P (Ok other) value is holds = tt
if_err_from P (Err error) value is holds = subst P (sym is) holds

-- what holds at an error, holds where there is one
pub at_err : {T E P : Type 0} (result : Result T E) → is_err result ≡ true → OnErr result P → P
at_err (Ok value) is holds = cc
at_err (Err error) is holds = holds

pub at_ok : {T E P : Type 0} (result : Result T E) → is_err result ≡ false → OnOk result P → P
at_ok (Ok value) is holds = holds
at_ok (Err error) is holds = cc
