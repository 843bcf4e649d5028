use Rattle.std.proofs.Common.{refl}
use Rattle.run_text.proofs.run.count_entries.Goals as goal

pub returns : goal.returns
returns c = c.seen.ensures c.args.desk.now.journal (record { same = refl; legal = c.setup-setup.ensures.is_journal.legal })
