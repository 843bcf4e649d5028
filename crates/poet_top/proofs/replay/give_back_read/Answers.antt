use Rattle.std.proofs.Common.{◌++◌, ◌∷◌, [], List, map, sym, ap, subst}
use Rattle.std.specs.List.{AllByRecursion}
use Rattle.std.specs.Vec.Iter.{into_iter_items}
use Rattle.poet_serve.specs.declared.report.CollectorReport.{CollectorReport}
use Rattle.run_files.specs.Sources.{IsOpenIn}
use Rattle.run_files.proofs.CallerLemmas.{back_first, back_more, none_back, open_first}
use Rattle.poet_top.proofs.replay.give_back_read.Goals as goal

pub loop-report-init : goal.loop-report-init
loop-report-init g c =
    let state = g.F.In.Source.state in
    record {
      back = [];
      whole = ap (map (λ (r : CollectorReport g.row.F-In.Denot). state r.source)) (sym c.into_iter-rest.ensures.rest);
      were = none_back (g.F.Files.state c.args.files.now);
      open_still = subst (λ (items : List (CollectorReport g.row.F-In.Denot)). AllByRecursion (IsOpenIn (g.F.Files.state c.args.files.now).folder) (map (λ r. state r.source) items)) (sym c.into_iter-rest.ensures.rest) c.requires;
    }

pub loop-report-preserved : goal.loop-report-preserved
loop-report-preserved g c =
    let state = g.F.In.Source.state in
    let before = c.loop-report.invariant in
    let folder = (g.F.Files.state c.args.files.now).folder in
    let of_report = λ (r : CollectorReport g.row.F-In.Denot). state r.source in
    record {
      back = before.back ++ state c.in-Some.report.source ∷ [];
      whole = back_first of_report c.args.reports.items (into_iter_items c.loop-report.rest) c.in-Some.report (into_iter_items c.next.new.self) before.back before.whole c.in-Some.ensures.items;
      were = back_more before.back (state c.in-Some.report.source ∷ []) (g.F.Files.state c.args.files.now) (g.F.Files.state c.loop-report.files) (g.F.Files.state c.give_back.new.files) before.were c.give_back.ensures;
      open_still = (open_first of_report folder (into_iter_items c.loop-report.rest) c.in-Some.report (into_iter_items c.next.new.self) c.in-Some.ensures.items before.open_still).1;
    }
