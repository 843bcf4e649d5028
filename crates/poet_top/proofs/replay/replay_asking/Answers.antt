use Rattle.std.proofs.Common.{inr}
use Rattle.poet_top.proofs.replay.replay_asking.Goals as goal

pub returns-in-Ok : goal.returns-in-Ok
returns-in-Ok g c =
    (c.run_and_tell.ensures.0, inr (g.F.Files.state c.read_closing.new.files, c.in-Ok.closing, c.in-Ok.ensures.ok, c.run_and_tell.ensures.1), c.run_and_tell.ensures.2)
