use Rattle.std.proofs.Common.{◌≡◌, ◌++◌, List, map}
use Rattle.std.specs.List.{AllByRecursion}
use Rattle.std.specs.Vec.Iter.{into_iter_items, into_iter_len}
use Rattle.poet_io.specs.SourceState.{SourceState}
use Rattle.run_files.specs.Sources.{IsOpenIn, WereGivenBack}
use Rattle.run_files.proofs.sources.give_back_all.Given as goal

-- the sources so far were given back, and the others are open
abbrev pub invariant-loop-source : goal.invariant-loop-source
invariant-loop-source g l =
    let state = g.F.In.Source.state in
    record {
      back : List SourceState;
      whole : map state l.fn.sources.items ≡ back ++ map state (into_iter_items l.rest);
      were : WereGivenBack back (g.F.Files.state l.fn.files) (g.F.Files.state l.files);
      open_still : AllByRecursion (IsOpenIn (g.F.Files.state l.fn.files).folder) (map state (into_iter_items l.rest));
    }

abbrev pub decreases-loop-source : goal.decreases-loop-source
decreases-loop-source g l = into_iter_len l.rest
