use Rattle.std.proofs.Common.{cond, ◌∙◌, refl}
use Rattle.std.specs.Prelude.{nat_lt}
use Rattle.cluster_levels.proofs.LevelLemmas.{new_levels}
use Rattle.cluster_levels.proofs.levels.Levels.new.Goals as goal

pub invariant_of-result : goal.invariant_of-result
invariant_of-result c =
    let width = cond (nat_lt 1 c.args.after) c.args.traces 0 in
    new_levels c.args.traces c.args.sizes c.args.after c.in_ok-all_alone.field-0.items width refl c.requires.some c.in_ok-all_alone.ensures.alone c.requires.most c.levels-count.ensures.sizes
    (c.in_ok-all_alone.ensures.count ∙ c.levels-count.ensures.number)
