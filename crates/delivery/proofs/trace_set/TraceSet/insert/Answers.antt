use Rattle.std.proofs.Common.{◌≡◌, ◌↔◌, ◌⊎◌, ◌*◌, ◌/◌, ◌%◌, ◌^◌, List, ℕ, set, subst}
use Rattle.std.specs.Prelude.{bit_or, slice_index}
use Rattle.delivery.specs.TraceSets.{IsIn}
use Rattle.delivery.proofs.Sets.{inserted}
use Rattle.delivery.proofs.trace_set.TraceSet.insert.Goals as goal

pub returns : goal.returns
returns c other below =
    let words = c.self.inside.words in
    let word = slice_index words (c.args.trace / 64) in
    subst (λ (old : List ℕ). IsIn (set words (c.args.trace / 64) (bit_or word (1 * 2 ^ (c.args.trace % 64) % 2 ^ 64))) other ↔ (IsIn old other ⊎ (other ≡ c.args.trace))) c.self.view_is (inserted words c.self.told c.args.trace c.requires other)
