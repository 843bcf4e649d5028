use Rattle.std.proofs.Common.{List, ℕ, inr, subst}
use Rattle.client_session.specs.declared.command.Command.{Command}
use Rattle.command_line.specs.Asking.{replay_of}
use Rattle.run_files.specs.Loading.{SayScripts}
use Rattle.poet_top.specs.Replay.{EndsAtClosing}
use Rattle.poet_top.proofs.replay.replay_with.Goals as goal

pub returns-in-Ok : goal.returns-in-Ok
returns-in-Ok g c =
    let files = g.F.Files.state in
    let says = subst (λ (names : List (List ℕ)). SayScripts c.args.target.now.types 0 names (files c.args.files.now) (files c.read_scripts.new.files) c.in-Ok.scripts.items) c.as_slice.ensures c.in-Ok.ensures.ok in
    let ends = subst (λ (scripts : List (List Command)). EndsAtClosing (replay_of c.args.plan.now) c.args.target.now scripts (files c.read_scripts.new.files) (files c.replay_asking.new.files) c.replay_asking.ensures.0) c.deref.ensures.value c.replay_asking.ensures.1 in
    (c.replay_asking.ensures.0, inr (files c.read_scripts.new.files, c.in-Ok.scripts.items, says, ends), c.replay_asking.ensures.2)
