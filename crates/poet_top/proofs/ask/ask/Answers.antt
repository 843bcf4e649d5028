use Rattle.std.proofs.Common.{◌≡◌, sym, subst}
use Rattle.poet_io.specs.FilesState.{FilesState}
use Rattle.poet_io.specs.Faults.{IsRaised}
use Rattle.poet_io.specs.Uses.{NotesClose}
use Rattle.poet_io.proofs.CallerLemmas.{FileLife}
use Rattle.poet_top.specs.Ends.{EndsOver}
use Rattle.poet_top.specs.Outcome.{Outcome}
use Rattle.poet_top.proofs.FileEnds.{open_ends, source_ends}
use Rattle.poet_top.proofs.ask.ask.Given.{Over}
use Rattle.poet_top.proofs.ask.ask.Goals as goal
use Rattle.poet_top.proofs.ask.ask.Goals.{After-close}

-- what is known of the file: opening it left the folder as it was
life : (g : Over) (c : After-close g) → FileLife c.args.plan.now.name.now (g.F.Files.state c.args.files.now) (g.F.Files.state c.close.new.self)
life g c =
    let after = g.F.Files.state c.close.new.self in
    let last = g.F.In.Source.state c.answer_from-answer.new.source in
    record {
      first = g.F.In.Source.state c.in-Ok.source;
      last = last;
      opened = c.in-Ok.ensures.opened;
      same_name = c.answer_from-answer.ensures.same_name;
      rest = c.answer_from-answer.ensures.rest;
      tells_both = g.F.Files.tells_both c.args.files.now;
      same_folder = subst (λ (f : FilesState). after.folder ≡ f.folder) c.in-Ok.ensures.same c.close.ensures.same_folder;
      no_fault = λ none. subst (λ (f : FilesState). after.faults ≡ f.faults) c.in-Ok.ensures.same (c.close.ensures.no_fault none);
      fault = λ some. subst (λ (f : FilesState). IsRaised f.faults after.faults) c.in-Ok.ensures.same (c.close.ensures.fault some);
      noted = subst (λ (f : FilesState). NotesClose last f.uses after.uses) c.in-Ok.ensures.same c.close.ensures.noted;
    }

pub returns-in-Err : goal.returns-in-Err
returns-in-Err g c =
    let before = g.F.Files.state c.args.files.now in
    let after = g.F.Files.state c.open.new.self in
    let plan = c.args.plan.now in
    subst (λ (outcome : Outcome). EndsOver plan.name.now plan.a plan.b before after outcome) (sym c.of_open.ensures)
    (open_ends plan.name.now plan.a plan.b before after c.in-Err.error c.in-Err.ensures.refused)

pub returns : goal.returns
unfolding life
returns g c =
    let at = (goal.at.returns g c).After-close in
    let plan = c.args.plan.now in
    source_ends plan.name.now (g.F.Files.state c.args.files.now) (g.F.Files.state c.close.new.self) (life g at)
    plan.a plan.b c.answer_from-answer.result c.in-Ok.ensures.fresh
    c.answer_from-answer.ensures.faults c.answer_from-answer.ensures.at_end c.answer_from-answer.ensures.ok c.answer_from-answer.ensures.err
