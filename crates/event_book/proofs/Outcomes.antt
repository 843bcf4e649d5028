-- What follows of an outcome from what is known of it.
use Rattle.std.proofs.Common.{◌≡◌, Bool, true, false, Result, Ok, Err}
use Rattle.std.specs.Prelude.{Option, None, Some, IfNone, OnOk}
use Rattle.std.specs.Result.{is_err}
use Rattle.std.specs.Bool.{OnTrue, OnFalse}

pub if_none_then : {X P Q : Type 0} (r : Option X) → IfNone r P → (P → Q) → IfNone r Q
if_none_then None p follows = follows p
if_none_then (Some x) p follows = tt

pub on_true_then : {P Q : Type 0} (b : Bool) → OnTrue b P → (P → Q) → OnTrue b Q
on_true_then true p follows = follows p
on_true_then false p follows = tt

pub on_false_then : {P Q : Type 0} (b : Bool) → OnFalse b P → (P → Q) → OnFalse b Q
on_false_then true p follows = tt
on_false_then false p follows = follows p

pub when_ok : {T E P : Type 0} (r : Result T E) → is_err r ≡ false → OnOk r P → P
when_ok (Ok t) is p = p
when_ok (Err e) is p = absurd cc
