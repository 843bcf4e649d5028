use Rattle.std.proofs.Common.{◌≡◌, ◌++◌, List, map}
use Rattle.std.specs.List.{AllByRecursion}
use Rattle.std.specs.Vec.Iter.{into_iter_items, into_iter_len}
use Rattle.poet_io.specs.SourceState.{SourceState}
use Rattle.run_files.specs.Sources.{IsOpenIn, WereGivenBack}
use Rattle.poet_top.proofs.replay.give_back_read.Given as goal

-- the sources so far were given back, and the others are open
abbrev pub invariant-loop-report : goal.invariant-loop-report
invariant-loop-report g l =
    let state = g.F.In.Source.state in
    record {
      back : List SourceState;
      whole : map (λ r. state r.source) l.fn.reports.items ≡ back ++ map (λ r. state r.source) (into_iter_items l.rest);
      were : WereGivenBack back (g.F.Files.state l.fn.files) (g.F.Files.state l.files);
      open_still : AllByRecursion (IsOpenIn (g.F.Files.state l.fn.files).folder) (map (λ r. state r.source) (into_iter_items l.rest));
    }

abbrev pub decreases-loop-report : goal.decreases-loop-report
decreases-loop-report g l = into_iter_len l.rest
