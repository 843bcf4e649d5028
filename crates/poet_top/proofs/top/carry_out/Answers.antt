use Rattle.std.proofs.Common.{sym, subst}
use Rattle.command_line.specs.Asking.{asked_by}
use Rattle.command_line.specs.Plans.{IsPlan}
use Rattle.command_line.specs.declared.plan.Plan.{Plan}
use Rattle.poet_top.specs.Ending.{IsToldOf}
use Rattle.poet_top.specs.Ends.{EndsAsked}
use Rattle.poet_top.proofs.top.carry_out.Goals as goal

pub replay-requires-clause-some : goal.replay-requires-clause-some
replay-requires-clause-some g c κs within = (subst (λ (plan : Plan). IsPlan c.requires.0 (asked_by plan)) c.in-Replay.is c.requires.1).some_events

pub returns-in-Ask : goal.returns-in-Ask
returns-in-Ask g c =
    subst (λ (plan : Plan). IsToldOf (EndsAsked (asked_by plan) (g.F.Files.state c.args.files.now) (g.F.Files.state c.ask_and_tell.new.files)) c.ask_and_tell.result (g.K.Sink.state c.args.out.now) (g.K.Sink.state c.ask_and_tell.new.out)) (sym c.in-Ask.is) c.ask_and_tell.ensures

pub returns-in-Replay : goal.returns-in-Replay
returns-in-Replay g c =
    subst (λ (plan : Plan). IsToldOf (EndsAsked (asked_by plan) (g.F.Files.state c.args.files.now) (g.F.Files.state c.replay.new.files)) c.replay.result (g.K.Sink.state c.args.out.now) (g.K.Sink.state c.replay.new.out)) (sym c.in-Replay.is) c.replay.ensures

pub load_and_tell-requires : goal.load_and_tell-requires
load_and_tell-requires g c = (subst (λ (plan : Plan). IsPlan c.requires.0 (asked_by plan)) c.in-Load.is c.requires.1).most

pub returns-in-Load : goal.returns-in-Load
returns-in-Load g c =
    subst (λ (plan : Plan). IsToldOf (EndsAsked (asked_by plan) (g.F.Files.state c.args.files.now) (g.F.Files.state c.args.files.now)) c.load_and_tell.result (g.K.Sink.state c.args.out.now) (g.K.Sink.state c.load_and_tell.new.out)) (sym c.in-Load.is) (c.load_and_tell.ensures (g.F.Files.state c.args.files.now))
