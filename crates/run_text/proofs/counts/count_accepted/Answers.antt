use Rattle.std.proofs.Common.{refl}
use Rattle.run_text.proofs.counts.count_accepted.Goals as goal

pub returns : goal.returns
returns c = c.accepted.ensures c.args.desk.now.journal (record { same = refl; legal = c.setup-setup.ensures.is_journal.legal })
