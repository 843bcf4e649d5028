use Rattle.std.proofs.Common.{◌≡◌, ℕ, zero, suc, ◌+◌, ◌<◌, ◌≤◌, List, [], ◌∷◌, length, get_or, set, map, min, refl, ◌∙◌, ap, arith}
use Rattle.std.specs.Prelude.{slice_index, replicate}
use Rattle.shared_list.specs.Shared.{Shared, unspared, no_items}
use Rattle.shared_list.specs.Traces.{spares_of}

-- no trace's room falls by more than `by` where the room for items doesn't
slice_index-spares_of : (s s' by : ℕ) → s ≤ s' + by → (places : List (Shared ℕ)) (k : ℕ) → slice_index (spares_of s places) k ≤ slice_index (spares_of s' places) k + by
slice_index-spares_of s s' by all [] k = omega arith
slice_index-spares_of s s' by all (p ∷ ps) zero = omega arith
slice_index-spares_of s s' by all (p ∷ ps) (suc k) = slice_index-spares_of s s' by all ps k

-- nor where also that for the places of one trace doesn't
pub slice_index-spares_of-set : (s s' by : ℕ) → s ≤ s' + by → (places : List (Shared ℕ)) (trace : ℕ) (old new : Shared ℕ) → old ≡ get_or places trace old → old.spare ≤ new.spare + by → (k : ℕ) → slice_index (spares_of s places) k ≤ slice_index (spares_of s' (set places trace new)) k + by
slice_index-spares_of-set s s' by all [] trace old new was one k = omega arith
slice_index-spares_of-set s s' by all (p ∷ ps) zero old new was one zero = let same = ap (λ (q : Shared ℕ). q.spare) was in omega arith
slice_index-spares_of-set s s' by all (p ∷ ps) zero old new was one (suc k) = slice_index-spares_of s s' by all ps k
slice_index-spares_of-set s s' by all (p ∷ ps) (suc trace) old new was one zero = omega arith
slice_index-spares_of-set s s' by all (p ∷ ps) (suc trace) old new was one (suc k) = slice_index-spares_of-set s s' by all ps trace old new was one k

-- the room of a trace is for items and for its places
pub room_of : (s : ℕ) (places : List (Shared ℕ)) (trace : ℕ) → 1 ≤ slice_index (spares_of s places) trace → (1 ≤ s) × (trace < length places)
room_of s [] trace h = absurd (omega arith)
room_of s (p ∷ ps) zero h = (omega arith, omega arith)
room_of s (p ∷ ps) (suc trace) h = let rest = room_of s ps trace h in (rest.0, omega (arith, rest.1))

pub place_room : (s : ℕ) (places : List (Shared ℕ)) (trace : ℕ) (p : Shared ℕ) → p ≡ get_or places trace p → 1 ≤ slice_index (spares_of s places) trace → 1 ≤ p.spare
place_room s [] trace p was h = absurd (omega arith)
place_room s (q ∷ qs) zero p was h = let same = ap (λ (q : Shared ℕ). q.spare) was in omega arith
place_room s (q ∷ qs) (suc trace) p was h = place_room s qs trace p was h

pub room_made : (s n : ℕ) (places : List (Shared ℕ)) (trace : ℕ) (new : Shared ℕ) → trace < length places → n ≤ s → n ≤ new.spare → n ≤ slice_index (spares_of s (set places trace new)) trace
room_made s n [] trace new h a b = absurd (omega arith)
room_made s n (p ∷ ps) zero new h a b = omega arith
room_made s n (p ∷ ps) (suc trace) new h a b = room_made s n ps trace new (omega arith) a b

no_room : (s n : ℕ) → s ≡ 0 → min s n ≡ 0
no_room s n e = omega arith

pub spares_of-unspared : (s : ℕ) → s ≡ 0 → (places : List (Shared ℕ)) → spares_of s (map unspared places) ≡ replicate (length places) 0
spares_of-unspared s e [] = refl
spares_of-unspared s e (p ∷ ps) = ap (λ n. n ∷ spares_of s (map unspared ps)) (no_room s 0 e) ∙ ap (λ ns. 0 ∷ ns) (spares_of-unspared s e ps)

pub spares_of-replicate : (s : ℕ) → s ≡ 0 → (n : ℕ) → spares_of s (replicate n no_items) ≡ replicate n 0
spares_of-replicate s e zero = refl
spares_of-replicate s e (suc n) = ap (λ m. m ∷ spares_of s (replicate n no_items)) (no_room s 0 e) ∙ ap (λ ns. 0 ∷ ns) (spares_of-replicate s e n)
