-- How writers follow one another.
use Rattle.std.proofs.Common.{◌≡◌, ℕ, ◌+◌, ◌-◌, List, ◌++◌, length, take, drop, Result, Ok, Err, ◌∙◌, subst}
use Rattle.std.specs.Prelude.{IsErrAnd}
use Rattle.poet_io.specs.Faults.{IsRaised}
use Rattle.poet_io.specs.Grows.{Grows}
use Rattle.poet_io.specs.SinkState.{SinkState}
use Rattle.poet_io.specs.Writes.{IsWritten, IsCutShort, Writes}
use Rattle.poet_io.proofs.BytesSoFar.{Grows-append, Grows_further, GrowsByPrefix-more, GrowsByPrefix-after}

-- two texts that were written are one
pub written_both : {a b c : SinkState} {xs ys : List ℕ} → IsWritten a b xs → IsWritten b c ys → IsWritten a c (xs ++ ys)
written_both {a} {b} {c} {xs} {ys} first second = record { all = Grows-append a.taken b.taken c.taken xs ys first.all second.all; no_fault = second.no_fault ∙ first.no_fault }

-- a text that was cut short, and with it what should have followed
pub cut_more : {a b : SinkState} {xs : List ℕ} (ys : List ℕ) → IsCutShort a b xs → IsCutShort a b (xs ++ ys)
cut_more {a} {b} {xs} ys cut = record { part = GrowsByPrefix-more a.taken b.taken xs ys cut.part; fault = cut.fault }

-- a text that was written, and what follows cut short
pub cut_after : {a b c : SinkState} {xs ys : List ℕ} → IsWritten a b xs → IsCutShort b c ys → IsCutShort a c (xs ++ ys)
cut_after {a} {b} {c} {xs} {ys} first cut = record {
  part = GrowsByPrefix-after a.taken b.taken c.taken xs ys first.all cut.part;
  fault = subst (λ n. IsRaised n c.faults) first.no_fault cut.fault;
}

-- a text that was written, and then one more
pub writes_after : {T E : Type 0} {a b : SinkState} {xs : List ℕ} (c : SinkState) (ys : List ℕ) (result : Result T E) → IsWritten a b xs → Writes b c ys result → Writes a c (xs ++ ys) result
writes_after c ys (Ok value) first second = written_both first second
writes_after c ys (Err error) first second = cut_after first second

-- a writer that answers an error once its text was cut short
pub ends_cut : {T E : Type 0} {a b : SinkState} {text : List ℕ} (result : Result T E) (value : E) → IsErrAnd result (λ error. error ≡ value) → IsCutShort a b text → Writes a b text result
ends_cut (Ok result) value is cut = absurd is
ends_cut (Err error) value is cut = cut

-- a prefix of some bytes that was written, and some of the rest
pub written_further : (a b c : SinkState) (bytes : List ℕ) (n m : ℕ) → IsWritten a b (take n bytes) → Grows b.taken c.taken (take m (take (length bytes - n) (drop n bytes))) → c.faults ≡ b.faults → IsWritten a c (take (n + m) bytes)
written_further a b c bytes n m first grown no_fault = record { all = Grows_further a.taken b.taken c.taken bytes n m first.all grown; no_fault = no_fault ∙ first.no_fault }
