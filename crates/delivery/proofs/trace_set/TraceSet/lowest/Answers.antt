use Rattle.std.proofs.Common.{List, ℕ, ◌≤◌, ◌<◌, ◌*◌, ◌+◌, subst, arith, rules, w64}
use Rattle.std.specs.Prelude.{slice_index}
use Rattle.std.specs.Int.{trailing_zeros}
use Rattle.delivery.specs.TraceSets.{IsIn}
use Rattle.delivery.proofs.Sets.{lowest_is}
use Rattle.delivery.proofs.trace_set.TraceSet.lowest.Goals as goal

pub returns-then-word-ne0-clause-some : goal.returns-then-word-ne0-clause-some
returns-then-word-ne0-clause-some c =
    let words = c.self.inside.words in
    let at = c.loop-at.at in
    let trace = at * 64 + trailing_zeros w64 (slice_index words at) in
    subst (λ (s : List ℕ). (trace < 256) × IsIn s trace × ((other : ℕ) → other < 256 → IsIn s other → trace ≤ other)) c.self.view_is
    (lowest_is words at c.loop-at-test.true (omega arith) (search rules) (λ t before is. c.loop-at.invariant t before (subst (λ (s : List ℕ). IsIn s t) c.self.view_is is)))
