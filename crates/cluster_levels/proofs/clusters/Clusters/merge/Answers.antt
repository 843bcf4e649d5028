use Rattle.cluster_levels.proofs.LabelLemmas.{IsWritten, reads, read_sum, read_merged, read_tallied}
use Rattle.std.proofs.Common.{arith}
use Rattle.cluster_levels.proofs.clusters.Clusters.merge.Goals as goal

pub overflow_add-index_mut : goal.overflow_add-index_mut
overflow_add-index_mut c =
    let read = reads c.self.inside.labels.items c.self.inside.sizes.items c.self.inside.tallies c.args.self.now c.args.p c.args.q c.index-kept.result.now c.index-gone.result.now c.index_mut.result.now c.index.result.now
    c.self.invariant c.self.view_is c.requires.p c.requires.q c.requires.apart c.index-kept.ensures c.index-gone.ensures c.index_mut.ensures.value c.index.ensures in
    omega (arith, read_sum c.self.inside.labels.items c.self.inside.sizes.items c.self.inside.tallies.width c.args.p c.args.q c.index-kept.result.now c.index-gone.result.now c.index_mut.result.now c.index.result.now c.self.invariant read)

pub invariant_of-self-else-width-gt0 : goal.invariant_of-self-else-width-gt0
invariant_of-self-else-width-gt0 c =
    let read = reads c.self.inside.labels.items c.self.inside.sizes.items c.self.inside.tallies c.args.self.now c.args.p c.args.q c.index-kept.result.now c.index-gone.result.now c.index_mut.result.now c.index.result.now
    c.self.invariant c.self.view_is c.requires.p c.requires.q c.requires.apart c.index-kept.ensures c.index-gone.ensures c.index_mut.ensures.value c.index.ensures in
    let wrote : IsWritten c.self.inside.labels.items c.deref_mut.result.now c.relabel.new.labels c.self.inside.labels.len c.index-kept.result.now c.index-gone.result.now =
    record { full = c.self.inside.labels.ok.0; was = c.deref_mut.ensures.value; as_long = c.relabel.auto.labels; relabeled = c.relabel.ensures } in
    read_merged c.self.inside.labels.items c.self.inside.sizes.items c.deref_mut.result.now c.relabel.new.labels c.self.inside.labels.len c.self.inside.tallies.width c.args.p c.args.q c.index-kept.result.now c.index-gone.result.now c.index_mut.result.now c.index.result.now c.self.invariant read wrote

pub invariant_of-self : goal.invariant_of-self
invariant_of-self c =
    let read = reads c.self.inside.labels.items c.self.inside.sizes.items c.self.inside.tallies c.args.self.now c.args.p c.args.q c.index-kept.result.now c.index-gone.result.now c.index_mut.result.now c.index.result.now
    c.self.invariant c.self.view_is c.requires.p c.requires.q c.requires.apart c.index-kept.ensures c.index-gone.ensures c.index_mut.ensures.value c.index.ensures in
    let wrote : IsWritten c.self.inside.labels.items c.deref_mut.result.now c.relabel.new.labels c.self.inside.labels.len c.index-kept.result.now c.index-gone.result.now =
    record { full = c.self.inside.labels.ok.0; was = c.deref_mut.ensures.value; as_long = c.relabel.auto.labels; relabeled = c.relabel.ensures } in
    rw c.add_line.ensures.width (read_merged c.self.inside.labels.items c.self.inside.sizes.items c.deref_mut.result.now c.relabel.new.labels c.self.inside.labels.len c.self.inside.tallies.width c.args.p c.args.q c.index-kept.result.now c.index-gone.result.now c.index_mut.result.now c.index.result.now c.self.invariant read wrote)

pub returns-then-width-gt0-clause-tallied : goal.returns-then-width-gt0-clause-tallied
returns-then-width-gt0-clause-tallied c =
    let read = reads c.self.inside.labels.items c.self.inside.sizes.items c.self.inside.tallies c.args.self.now c.args.p c.args.q c.index-kept.result.now c.index-gone.result.now c.index_mut.result.now c.index.result.now
    c.self.invariant c.self.view_is c.requires.p c.requires.q c.requires.apart c.index-kept.ensures c.index-gone.ensures c.index_mut.ensures.value c.index.ensures in
    let wrote : IsWritten c.self.inside.labels.items c.deref_mut.result.now c.relabel.new.labels c.self.inside.labels.len c.index-kept.result.now c.index-gone.result.now =
    record { full = c.self.inside.labels.ok.0; was = c.deref_mut.ensures.value; as_long = c.relabel.auto.labels; relabeled = c.relabel.ensures } in
    let added = c.add_line.ensures in
    read_tallied c.self.inside.labels.items c.self.inside.sizes.items c.deref_mut.result.now c.relabel.new.labels c.self.inside.tallies c.add_line.new.self c.args.self.now c.self.inside.labels.len c.args.p c.args.q c.index-kept.result.now c.index-gone.result.now c.index_mut.result.now c.index.result.now
    c.self.invariant c.self.view_is read wrote added.row added.column added.others
