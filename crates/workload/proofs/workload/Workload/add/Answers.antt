-- The event is the next of its trace.
use Rattle.std.proofs.Common.{refl}
use Rattle.workload.proofs.Keeping.{kept_send, kept_other}
use Rattle.workload.proofs.workload.Workload.add.Goals as goal

pub invariant_of-self-then-type_no-eq-SEND : goal.invariant_of-self-then-type_no-eq-SEND
invariant_of-self-then-type_no-eq-SEND c =
    let workload = c.args.self.now in
    record {
      kept = rw (c.in_ok-push.ensures.items, c.next_id-id.ensures)
          (kept_send workload.events.items workload.counts.items workload.last_sends.items workload.kept _ c.requires.trace refl c.if-type_no-eq-SEND.true);
    }

pub invariant_of-self-else-type_no-eq-SEND : goal.invariant_of-self-else-type_no-eq-SEND
invariant_of-self-else-type_no-eq-SEND c =
    let workload = c.args.self.now in
    record {
      kept = rw (c.in_ok-push.ensures.items, c.next_id-id.ensures)
          (kept_other workload.events.items workload.counts.items workload.last_sends.items workload.kept _ c.requires.trace refl c.if-type_no-eq-SEND.false);
    }
