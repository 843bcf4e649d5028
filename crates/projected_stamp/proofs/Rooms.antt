-- The room of each trace, as that for its stamps and that for runs change.
use Rattle.std.proofs.Common.{◌≡◌, ◌≤◌, ◌+◌, ℕ, zero, suc, List, [], ◌∷◌, refl, arith}
use Rattle.std.specs.Prelude.{min, slice_index}
use Rattle.projected_stamp.specs.Runs.{spares_within}

pub slice_index-within : (room : ℕ) (spare : List ℕ) (k : ℕ) → slice_index (spares_within room spare) k ≡ min (slice_index spare k) room
slice_index-within room [] k = omega arith
slice_index-within room (n ∷ spare) zero = refl
slice_index-within room (n ∷ spare) (suc k) = slice_index-within room spare k

-- room that gets less by so much gets no less in all
pub spares-fall : (room later : ℕ) (spare after : List ℕ) (less : ℕ) → room ≤ later + less → ((k : ℕ) → slice_index spare k ≤ slice_index after k + less)
    → (k : ℕ) → slice_index (spares_within room spare) k ≤ slice_index (spares_within later after) k + less
spares-fall room later spare after less runs stamps k =
    let before = slice_index-within room spare k in
    let behind = slice_index-within later after k in
    let its = stamps k in
    omega (arith, before, behind, its, runs)

-- room that gets no less is no less in all
pub spares-rise : (room later : ℕ) (spare after : List ℕ) → room ≤ later → ((k : ℕ) → slice_index spare k ≤ slice_index after k)
    → (k : ℕ) → slice_index (spares_within room spare) k ≤ slice_index (spares_within later after) k
spares-rise room later spare after runs stamps k =
    let before = slice_index-within room spare k in
    let behind = slice_index-within later after k in
    let its = stamps k in
    omega (arith, before, behind, its, runs)
