-- A trace has no more events than there are.
use Rattle.std.proofs.Common.{arith}
use Rattle.std.proofs.lemmas.List.{get_or_read}
use Rattle.workload.proofs.Counts.{count_on-le-length}
use Rattle.workload.proofs.workload.Workload.next_id.Goals as goal

pub overflow_add-result : goal.overflow_add-result
overflow_add-result c =
    let workload = c.args.self.now in
    let few = count_on-le-length c.args.trace workload.events.items in
    let counted = workload.kept.counted c.args.trace c.requires.trace in
    let read = get_or_read workload.counts.items _ _ c.requires.trace c.index.ensures 0 in
    omega (arith, few, counted, read)
