use Rattle.std.proofs.Common.{arith}
use Rattle.run_text.proofs.Delivered.{delivered_few}
use Rattle.run_text.proofs.counts.count_held.Goals as goal

pub overflow_sub-result : goal.overflow_sub-result
overflow_sub-result c =
    let desk = c.args.desk.now in
    let few = delivered_few desk.setup.types desk.journal c.setup-setup.ensures.is_journal.legal in
    omega (arith, few, c.count_accepted.ensures, c.count_delivered.ensures)
