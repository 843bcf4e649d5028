use Rattle.std.proofs.Common.{rules, ◌<◌, ℕ, sym, ap, ◌∙◌, subst}
use Rattle.turnstile.proofs.Keeping.{finds_room}
use Rattle.turnstile.proofs.Seating.{splits}
use Rattle.turnstile.proofs.turnstile.Turnstile.cut.Goals as goal

pub load-requires : goal.load-requires
load-requires g c =
    (search rules, search rules, finds_room g.V.StandsFor.journal_of g.V.StandsFor.fixed_of _ _ _ _ c.args.pass.live)

pub split_seat-second-requires : goal.split_seat-second-requires
split_seat-second-requires g c =
    let same = sym c.load.ensures.2.0 in let at = sym c.requires.named in let inside = c.requires.inside in (
      search rules,
      search rules,
      splits g.V.StandsFor.journal_of g.V.StandsFor.fixed_of _ _ c.load.new.seat.me.0 g.E.Edge.at (ap (λ m. m.0.stage) (sym same) ∙ c.args.pass.resting)
          (subst (λ m. m.0.view.lo < g.E.Edge.at) same (subst (λ (n : ℕ). c.args.pass.token.me.0.view.lo < n) at inside.0))
          (subst (λ m. g.E.Edge.at < m.0.view.hi) same (subst (λ (n : ℕ). n < c.args.pass.token.me.0.view.hi) at inside.1)),
    )

pub returns-clause-fresh : goal.returns-clause-fresh
returns-clause-fresh g c = c.load.ensures.2.1 c.args.at c.requires.inside.0 c.requires.inside.1
