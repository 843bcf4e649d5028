use Rattle.std.proofs.Common.{◌*◌, ap, arith}
use Rattle.cluster_levels.proofs.SizeLemmas.{next_product}
use Rattle.cluster_levels.proofs.sizes.bound_from.Goals as goal

pub overflow_mul-bound : goal.overflow_mul-bound
overflow_mul-bound c =
    let fits = next_product c.args.sizes.now c.loop-left.left c.loop-left.bound c.requires c.loop-left-test.true c.loop-left.invariant.within c.loop-left.invariant.so_far in
    omega (arith, fits, ap (λ n. n * c.loop-left.bound) c.from.ensures)

pub overflow_add-bound : goal.overflow_add-bound
overflow_add-bound c =
    let fits = next_product c.args.sizes.now c.loop-left.left c.loop-left.bound c.requires c.loop-left-test.true c.loop-left.invariant.within c.loop-left.invariant.so_far in
    omega (arith, fits, ap (λ n. n * c.loop-left.bound) c.from.ensures)
