use Rattle.std.proofs.Common.{inl}
use Rattle.poet_top.proofs.replay.put_text.Goals as goal

pub returns-in-Ok : goal.returns-in-Ok
returns-in-Ok g c = inl (c.in-Ok.ensures, c.status_of_run.ensures c.args.scripts.now c.args.closing.now)
