use Rattle.std.proofs.Common.{◌≡◌, ◌≢◌, ℕ, zero, suc, ◌+◌, ◌<◌, ◌≤◌, List, [], ◌∷◌, ◌++◌, length, length-append, get_or-set_same, get_or-set_other, refl, ◌∙◌, ap, arith, Some}
use Rattle.std.specs.Prelude.{slice_get, slice_index, replicate}
use Rattle.std.proofs.lemmas.List.{length-set}
use Rattle.shared_list.specs.Traces.{list_of, with_item}
use Rattle.shared_list.proofs.Pieces.{slice_get-append_left, slice_get-append_right}

module _ {T : Type 0} where
  -- an item before the end stays where one more is pushed
  pub slice_get-push_before : (items : List T) (item : T) (at : ℕ) → at < length items → slice_get (items ++ item ∷ []) at ≡ slice_get items at
  slice_get-push_before items item at h = slice_get-append_left items (item ∷ []) at h

  -- and the pushed one stands at the end
  pub slice_get-push_last : (items : List T) (item : T) → slice_get (items ++ item ∷ []) (length items) ≡ Some item
  slice_get-push_last items item = slice_get-append_right items (item ∷ []) (length items) 0 (omega arith)

  -- as many traces as before
  pub length-with_item : (lists : List (List T)) (trace : ℕ) (item : T) → length (with_item lists trace item) ≡ length lists
  length-with_item lists trace item = length-set lists trace (list_of lists trace ++ item ∷ [])

  -- the list of the trace has the item at its end
  pub list_of-with_item_same : (lists : List (List T)) (trace : ℕ) (item : T) → trace < length lists → list_of (with_item lists trace item) trace ≡ list_of lists trace ++ item ∷ []
  list_of-with_item_same lists trace item h = get_or-set_same lists trace (list_of lists trace ++ item ∷ []) [] h

  -- every other list stays
  pub list_of-with_item_other : (lists : List (List T)) (trace other : ℕ) (item : T) → other ≢ trace → list_of (with_item lists trace item) other ≡ list_of lists other
  list_of-with_item_other lists trace other item ne = get_or-set_other lists trace other (list_of lists trace ++ item ∷ []) [] ne

  pub length-list_of-with_item_same : (lists : List (List T)) (trace : ℕ) (item : T) → trace < length lists → length (list_of (with_item lists trace item) trace) ≡ length (list_of lists trace) + 1
  length-list_of-with_item_same lists trace item h =
      ap length (list_of-with_item_same lists trace item h) ∙ length-append (list_of lists trace) (item ∷ [])

  -- of so many empty lists each is empty
  pub list_of-replicate : (count trace : ℕ) → list_of (replicate count (let none : List T = [] in none)) trace ≡ []
  list_of-replicate zero trace = refl
  list_of-replicate (suc count) zero = refl
  list_of-replicate (suc count) (suc trace) = list_of-replicate count trace

-- a trace that has room is one of them
pub trace_with_room : (spare : List ℕ) (trace : ℕ) → 1 ≤ slice_index spare trace → trace < length spare
trace_with_room [] trace h = absurd (omega arith)
trace_with_room (n ∷ ns) zero h = omega arith
trace_with_room (n ∷ ns) (suc trace) h = let rest = trace_with_room ns trace h in omega arith

-- no trace has room in the lists that a share gives
pub slice_index-replicate : (count trace : ℕ) → slice_index (replicate count 0) trace ≡ 0
slice_index-replicate zero trace = refl
slice_index-replicate (suc count) zero = refl
slice_index-replicate (suc count) (suc trace) = slice_index-replicate count trace
