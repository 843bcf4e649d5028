use Rattle.std.proofs.Common.{◌≢◌, ◌↔◌, ◌*◌, ◌/◌, ◌%◌, ◌^◌, List, ℕ, set, subst, w64}
use Rattle.std.specs.Prelude.{bit_and, slice_index}
use Rattle.std.specs.Int.{bit_not}
use Rattle.delivery.specs.TraceSets.{IsIn}
use Rattle.delivery.proofs.Sets.{removed}
use Rattle.delivery.proofs.trace_set.TraceSet.remove.Goals as goal

pub returns : goal.returns
returns c other below =
    let words = c.self.inside.words in
    let word = slice_index words (c.args.trace / 64) in
    subst (λ (old : List ℕ). IsIn (set words (c.args.trace / 64) (bit_and word (bit_not w64 (1 * 2 ^ (c.args.trace % 64) % 2 ^ 64)))) other ↔ (IsIn old other × (other ≢ c.args.trace))) c.self.view_is (removed words c.self.told c.args.trace c.requires other)
