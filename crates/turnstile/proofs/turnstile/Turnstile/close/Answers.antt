use Rattle.std.proofs.Common.{◌≡◌, Some, sym, ap, ◌∙◌}
use Rattle.turnstile.proofs.Seating.{found_home}
use Rattle.turnstile.proofs.turnstile.Turnstile.close.Goals as goal

pub unreachable-requires : goal.unreachable-requires
unreachable-requires g c = let pass = c.args.pass in
    let home = found_home g.V.StandsFor.journal_of g.V.StandsFor.fixed_of _ _ pass.token.me.0 _ _ _ pass.resting pass.live c.requires.all
    c.close_with-closed.ensures.values.2 c.take.ensures.value in
    c.in_default.not-Some home.0 home.1

pub returns-clause-journal : goal.returns-clause-journal
returns-clause-journal g c = let pass = c.args.pass in
    let home = found_home g.V.StandsFor.journal_of g.V.StandsFor.fixed_of _ _ pass.token.me.0 _ _ _ pass.resting pass.live c.requires.all
    c.close_with-closed.ensures.values.2 c.take.ensures.value in
    let it : home.0 ≡ c.in-Some.value = cc (home.1, c.in-Some.is) in ap g.V.StandsFor.journal_of (sym it) ∙ home.2

pub returns-clause-fixed : goal.returns-clause-fixed
returns-clause-fixed g c = let pass = c.args.pass in
    let home = found_home g.V.StandsFor.journal_of g.V.StandsFor.fixed_of _ _ pass.token.me.0 _ _ _ pass.resting pass.live c.requires.all
    c.close_with-closed.ensures.values.2 c.take.ensures.value in
    let it : home.0 ≡ c.in-Some.value = cc (home.1, c.in-Some.is) in home.3 ∙ ap (λ v. Some (g.V.StandsFor.fixed_of v)) it
