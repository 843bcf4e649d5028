use Rattle.std.proofs.Common.{rules, ◌≡◌, ◌∷◌, Some, sym, ap, ◌∙◌, arith}
use Rattle.atomic_table.specs.Table.{rest}
use Rattle.turnstile.proofs.Keeping.{draws, reads_drawn}
use Rattle.turnstile.proofs.turnstile.Turnstile.try_turn.Goals as goal

pub compare_exchange-found-requires : goal.compare_exchange-found-requires
compare_exchange-found-requires g c =
    (search rules, search rules, draws g.V.StandsFor.journal_of g.V.StandsFor.fixed_of _ _ _ _ c.args.pass.resting c.args.pass.live)

pub load-entries-requires : goal.load-entries-requires
load-entries-requires g c = let draw = c.compare_exchange-found in let free : draw.result ≡ 0 = omega arith in
    (search rules, search rules, reads_drawn g.V.StandsFor.journal_of g.V.StandsFor.fixed_of _ _ _ _ _ draw.result _ draw.ensures.2.1 free c.args.pass.live)

pub exchange-requires : goal.exchange-requires
exchange-requires g c =
    let told = c.load-entries.ensures.2 in let value = told.0 in let is = ap (λ m. m.1) told.1 in
    (search rules, (Some value, is ∙ ap (λ l. (0, Some value) ∷ l) (sym (ap rest is))))
