use Rattle.std.proofs.Common.{rules}
use Rattle.turnstile.proofs.Keeping.{looks}
use Rattle.turnstile.proofs.turnstile.Turnstile.look.Goals as goal

pub load-length-requires : goal.load-length-requires
load-length-requires g c =
    (search rules, search rules, looks g.V.StandsFor.journal_of g.V.StandsFor.fixed_of _ _ _ _ c.args.pass.resting c.args.pass.live)
