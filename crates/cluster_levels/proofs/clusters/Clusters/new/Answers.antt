use Rattle.std.proofs.Common.{◌≡◌, replicate, arith, rules}
use Rattle.cluster_levels.proofs.LabelLemmas.{alone_are_clusters}
use Rattle.cluster_levels.proofs.clusters.Clusters.new.Goals as goal
use Rattle.cluster_levels.proofs.clusters.Clusters.new.Goals.{then-tallied, else-tallied}

pub invariant_of-result : goal.invariant_of-result
invariant_of-result c =
    let ones : c.in_ok-vec.field-0.items ≡ replicate c.args.traces 1 = search rules in
    alone_are_clusters c.in_ok-own_labels.field-0.items c.in_ok-vec.field-0.items c.in_ok-new.field-0.width c.args.traces c.requires c.in_ok-own_labels.ensures.traces c.in_ok-own_labels.ensures.own ones
    (λ some. elim c.if-tallied.branch [
      | then-tallied w ↦ omega (arith, c.in_ok-new.ensures.width, w.width-is)
      | else-tallied w ↦ absurd (omega (arith, c.in_ok-new.ensures.width, w.width-is, some))
    ])
