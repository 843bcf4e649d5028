use Rattle.std.proofs.Common.{rules, refl}
use Rattle.turnstile.proofs.Keeping.{serves_home}
use Rattle.turnstile.proofs.turnstile.Turnstile.give.Goals as goal

pub swap-requires : goal.swap-requires
swap-requires g c = let holder = c.args.turn.holder in (
  search rules,
  search rules,
  serves_home g.V.StandsFor.journal_of g.V.StandsFor.fixed_of _ _ _ _ c.append-token.result.me _ _ c.args.turn.value c.exchange-was.ensures.3
      c.append-token.ensures.appended holder.carries holder.live refl c.requires.fixed,
)
