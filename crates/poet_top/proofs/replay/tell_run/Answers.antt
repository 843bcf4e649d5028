use Rattle.std.proofs.Common.{List, map, sym, subst}
use Rattle.std.specs.List.{AllByRecursion}
use Rattle.poet_serve.specs.declared.report.CollectorReport.{CollectorReport}
use Rattle.run_files.specs.Sources.{IsOpenIn, WereGivenBack}
use Rattle.poet_top.proofs.replay.tell_run.Goals as goal

pub give_back_read-requires-after_bounds : goal.give_back_read-requires-after_bounds
give_back_read-requires-after_bounds g c κs within =
    subst (λ (reports : List (CollectorReport g.row.F-In.Denot)). AllByRecursion (IsOpenIn (g.F.Files.state c.args.files.now).folder) (map (λ report. g.F.In.Source.state report.source) reports)) (sym c.into_vec.ensures) c.requires.open

pub returns-clause-given_back : goal.returns-clause-given_back
returns-clause-given_back g c =
    subst (λ (reports : List (CollectorReport g.row.F-In.Denot)). WereGivenBack (map (λ report. g.F.In.Source.state report.source) reports) (g.F.Files.state c.args.files.now) (g.F.Files.state c.give_back_read.new.files)) c.into_vec.ensures c.give_back_read.ensures
