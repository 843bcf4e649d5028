use Rattle.std.proofs.Common.{[], ◌∷◌, ◌++◌, Some, refl, ap, ◌∙◌}
use Rattle.turnstile.proofs.Seating.{opens}
use Rattle.turnstile.proofs.turnstile.Turnstile.new.Goals as goal

pub new-requires : goal.new-requires
new-requires g c =
    opens g.V.StandsFor.journal_of g.V.StandsFor.fixed_of _ c.args.seats c.args.value _
    (c.push_reserved.ensures.items ∙ ap (λ xs. xs ++ Some c.args.value ∷ []) c.in-Ok.ensures.items) refl c.of.ensures c.requires.seats c.requires.empty
