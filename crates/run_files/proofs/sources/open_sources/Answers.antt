use Rattle.std.proofs.Common.{map}
use Rattle.run_files.specs.Troubles.{trouble_of}
use Rattle.run_files.proofs.Openings.{stuck_open}
use Rattle.run_files.proofs.sources.open_sources.Goals as goal

pub give_back_all-requires-after_bounds : goal.give_back_all-requires-after_bounds
give_back_all-requires-after_bounds g c κs within =
    stuck_open (map (λ n. n.now) c.args.names.now) (g.F.Files.state c.args.files.now) (g.F.Files.state c.open_each.new.files) (map g.F.In.Source.state c.open_each.new.sources.items) (trouble_of c.in-Err.fault) c.in-Err.ensures.err
