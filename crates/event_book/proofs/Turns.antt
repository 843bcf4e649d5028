-- How a loop goes through the events of a batch, and ends early.
use Rattle.std.proofs.Common.{◌≡◌, List, [], ◌∷◌, ◌++◌, length, refl, sym, ◌∙◌, ap, subst, arith, append-nil, Result, Ok, Err}
use Rattle.std.specs.Prelude.{IfErr, IsErrAnd}
use Rattle.std.specs.Vec.Iter.{into_iter_items, into_iter_len, into_iter_steps}
use Rattle.std.specs.declared.vec.IntoIter.{IntoIter}
use Rattle.std.specs.Iterator.{Yields}

nil_from_length : {A : Type 0} (xs : List A) → length xs ≡ 0 → xs ≡ []
nil_from_length [] none = refl
nil_from_length (x ∷ xs) none = absurd (omega arith)

-- what the iterator of a vector has given is a front of its items
pub taken_front : {X A : Type 0} (s : IntoIter X A) (xs : List X) (t : IntoIter X A) → Yields into_iter_steps s xs t → into_iter_items s ≡ xs ++ into_iter_items t
taken_front s [] t y = ap into_iter_items y
taken_front s (x ∷ xs) t y = y.1.0 ∙ ap (λ ys. x ∷ ys) (taken_front y.0 xs t y.2)

-- where it has nothing left, it has given all
pub taken_all : {X A : Type 0} (s : IntoIter X A) (xs : List X) (t : IntoIter X A) → Yields into_iter_steps s xs t → into_iter_len t ≡ 0 → into_iter_items s ≡ xs
taken_all s xs t yields none =
    taken_front s xs t yields ∙ ap (λ rest. xs ++ rest) (nil_from_length (into_iter_items t) (sym t.rest.ok.0 ∙ none)) ∙ append-nil xs

-- what holds of a value holds of the error that is this value
pub if_err_from : {T E : Type 0} (P : E → Type 0) (result : Result T E) (value : E) → IsErrAnd result (λ error. error ≡ value) → P value → IfErr result P
if_err_from P (Ok other) value is holds = tt
if_err_from P (Err error) value is holds = subst P (sym is) holds
