use Rattle.std.proofs.Common.{inr, refl}
use Rattle.poet_top.specs.Outcome.{HasLoaded}
use Rattle.poet_top.proofs.top.load_and_tell.Goals as goal

pub returns-in-Ok : goal.returns-in-Ok
returns-in-Ok g c = λ files.
    let told = c.in-Ok.loaded in
    (HasLoaded told, (refl, inr (told, c.in-Ok.ensures.told, c.in-Ok.ensures.events, refl)), c.put_with.ensures)
