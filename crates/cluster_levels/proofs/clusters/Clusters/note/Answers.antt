use Rattle.cluster_levels.proofs.LabelLemmas.{read_noted}
use Rattle.cluster_levels.proofs.clusters.Clusters.note.Goals as goal

pub returns-then-first-second-clause-tallied : goal.returns-then-first-second-clause-tallied
returns-then-first-second-clause-tallied c =
    let raised = c.raise.ensures in
    let again = c.raise-then-first-second.ensures in
    read_noted c.self.inside.labels.items c.self.inside.sizes.items c.self.inside.tallies c.raise.new.self c.raise-then-first-second.new.self c.args.self.now c.args.p c.args.q c.index-first.result.now c.index-second.result.now
    c.self.invariant c.self.view_is c.requires.p c.requires.q c.requires.kept c.index-first.ensures c.index-second.ensures c.if-first-second.true
    raised.width raised.raised raised.others again.raised again.others
