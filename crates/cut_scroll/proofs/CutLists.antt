-- The join and the meet of two cuts, trace by trace.
use Rattle.std.proofs.Common.{◌≡◌, ℕ, suc, zero, List, [], ◌∷◌, length, refl, ap, arith}
use Rattle.std.specs.Prelude.{max, min, slice_index}
use Rattle.cut_scroll.specs.Cuts.{joined, met}

pub length-joined : (cut other : List ℕ) → length cut ≡ length other → length (joined cut other) ≡ length cut
length-joined [] others same = refl
length-joined (n ∷ cut) [] same = absurd (omega arith)
length-joined (n ∷ cut) (m ∷ other) same = ap suc (length-joined cut other (omega arith))

pub slice_index-joined : (cut other : List ℕ) → length cut ≡ length other → (trace : ℕ) → slice_index (joined cut other) trace ≡ max (slice_index cut trace) (slice_index other trace)
slice_index-joined [] [] same trace = refl
slice_index-joined [] (m ∷ other) same trace = absurd (omega arith)
slice_index-joined (n ∷ cut) [] same trace = absurd (omega arith)
slice_index-joined (n ∷ cut) (m ∷ other) same zero = refl
slice_index-joined (n ∷ cut) (m ∷ other) same (suc trace) = slice_index-joined cut other (omega arith) trace

pub length-met : (cut other : List ℕ) → length cut ≡ length other → length (met cut other) ≡ length cut
length-met [] others same = refl
length-met (n ∷ cut) [] same = absurd (omega arith)
length-met (n ∷ cut) (m ∷ other) same = ap suc (length-met cut other (omega arith))

pub slice_index-met : (cut other : List ℕ) → length cut ≡ length other → (trace : ℕ) → slice_index (met cut other) trace ≡ min (slice_index cut trace) (slice_index other trace)
slice_index-met [] [] same trace = refl
slice_index-met [] (m ∷ other) same trace = absurd (omega arith)
slice_index-met (n ∷ cut) [] same trace = absurd (omega arith)
slice_index-met (n ∷ cut) (m ∷ other) same zero = refl
slice_index-met (n ∷ cut) (m ∷ other) same (suc trace) = slice_index-met cut other (omega arith) trace
