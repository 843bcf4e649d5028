use Rattle.std.proofs.Common.{◌≡◌, Err, ap, sym, subst}
use Rattle.poet_io.specs.FilesState.{FilesState}
use Rattle.poet_io.specs.Faults.{IsRaised}
use Rattle.poet_io.specs.Uses.{NotesClose}
use Rattle.poet_io.proofs.CallerLemmas.{FileLife}
use Rattle.run_files.specs.Files.{WasNotRead}
use Rattle.run_files.specs.declared.whole.FileFault.{FileFault}
use Rattle.run_files.proofs.FileEnds.{not_read}
use Rattle.run_files.proofs.whole.read_whole.Given.{Over}
use Rattle.run_files.proofs.whole.read_whole.Goals as goal
use Rattle.run_files.proofs.whole.read_whole.Goals.{After-close}

-- what is known of the file: opening it left the folder as it was
life : (g : Over) (c : After-close g) → FileLife c.args.name.now (g.F.Files.state c.args.files.now) (g.F.Files.state c.close.new.self)
life g c =
    let after = g.F.Files.state c.close.new.self in
    let last = g.F.In.Source.state c.read_all-read.new.source in
    record {
      first = g.F.In.Source.state c.in-Ok.source;
      last = last;
      opened = c.in-Ok.ensures.opened;
      same_name = c.read_all-read.ensures.same_name;
      rest = c.read_all-read.ensures.rest;
      tells_both = g.F.Files.tells_both c.args.files.now;
      same_folder = subst (λ (f : FilesState). after.folder ≡ f.folder) c.in-Ok.ensures.same c.close.ensures.same_folder;
      no_fault = λ none. subst (λ (f : FilesState). after.faults ≡ f.faults) c.in-Ok.ensures.same (c.close.ensures.no_fault none);
      fault = λ some. subst (λ (f : FilesState). IsRaised f.faults after.faults) c.in-Ok.ensures.same (c.close.ensures.fault some);
      noted = subst (λ (f : FilesState). NotesClose last f.uses after.uses) c.in-Ok.ensures.same c.close.ensures.noted;
    }

pub returns-in-Err-read-clause-err : goal.returns-in-Err-read-clause-err
unfolding life
returns-in-Err-read-clause-err g c =
    let at = (goal.at.returns-in-Err-read-clause-err g c).After-close in
    subst (λ (fault : FileFault). WasNotRead fault c.args.name.now (g.F.Files.state c.args.files.now) (g.F.Files.state c.close.new.self)) (sym c.fault_of_read.ensures)
    (not_read c.args.name.now (g.F.Files.state c.args.files.now) (g.F.Files.state c.close.new.self) (life g at) c.in-Err-read.error c.in-Ok.ensures.fresh c.in-Err-read.ensures.faults (λ is. c.in-Err-read.ensures.too_long (ap Err is)))
