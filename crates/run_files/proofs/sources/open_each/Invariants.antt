use Rattle.std.proofs.Common.{◌≡◌, map, take, length, vec_capacity}
use Rattle.run_files.specs.Sources.{AreOpenedAt}
use Rattle.run_files.proofs.sources.open_each.Given as goal

-- the files of the first names are open
abbrev pub invariant-loop-at : goal.invariant-loop-at
invariant-loop-at g l =
    record {
      opened : AreOpenedAt (g.F.Files.state l.fn.files).folder (map (λ n. n.now) (take l.at l.names)) (map g.F.In.Source.state l.sources.items);
      many : length l.sources.items ≡ l.at;
      room : vec_capacity l.sources ≡ vec_capacity l.fn.sources;
      same : g.F.Files.state l.files ≡ g.F.Files.state l.fn.files;
    }
