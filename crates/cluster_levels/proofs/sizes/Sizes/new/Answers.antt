use Rattle.std.proofs.Common.{◌≤◌, length, rules}
use Rattle.std.proofs.Math.Seq.{take-append_seam}
use Rattle.cluster_levels.proofs.SizeLemmas.{good_sizes}
use Rattle.cluster_levels.proofs.sizes.Sizes.new.Goals as goal

pub invariant_of-result : goal.invariant_of-result
invariant_of-result c =
    let list = c.args.list.now in
    let some : 1 ≤ length list = search rules in
    let good = good_sizes list some c.if-list-gt-MOST_LEVELS.false c.in_ok-check_sizes.ensures.good in
    rw (c.copy_from_slice.ensures.after, take-append_seam) (good, c.if-list-gt-MOST_LEVELS.false)
