use Rattle.std.proofs.Common.{inl, refl}
use Rattle.client_session.proofs.cuts.cut_has_reply.Goals as goal

pub returns-in_default : goal.returns-in_default
returns-in_default g c journal stands = inl (c.args.id, inl (refl, c.in_default.ensures.none journal stands), refl, refl)
