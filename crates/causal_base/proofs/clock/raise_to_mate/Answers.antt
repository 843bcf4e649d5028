-- The event that is found is the one with this id, since ids of what came differ.
use Rattle.std.proofs.Common.{◌≡◌, refl, sym, ◌∙◌, ap, subst, reverse, arith}
use Rattle.causal_base.specs.declared.event.Event.{Event}
use Rattle.causal_base.specs.ClockWalks.{RaisesMate}
use Rattle.causal_base.proofs.Pasts.{came_fit, same_came}
use Rattle.causal_base.proofs.Ready.{mate_in_range}
use Rattle.causal_base.proofs.clock.raise_to_mate.Goals as goal

pub raise-requires : goal.raise-requires
raise-requires c =
    let legal = c.requires.legal in
    let fit = came_fit legal.0 (reverse c.args.journal.now) legal.1 c.in-Some.event.now c.in-Some.ensures.some.0 in
    let range = mate_in_range legal.0 c.in-Some.event.now c.in-Some-mate.mate fit c.in-Some-mate.is in
    let below = range.trace in
    let same = legal.2 in
    omega (arith, below, same)

pub returns-in-Some-mate : goal.returns-in-Some-mate
returns-in-Some-mate c types e legal there is =
    let same : c.in-Some.event.now ≡ e = same_came types (reverse c.args.journal.now) legal c.in-Some.event.now e c.in-Some.ensures.some.0 there (c.in-Some.ensures.some.1 ∙ sym is) in
    let mate = sym c.in-Some-mate.is ∙ ap (λ (v : Event). v.mate) same in
    subst (λ mate. RaisesMate mate c.args.into.now c.raise.new.clock) mate c.raise.ensures

pub returns-in_default-mate : goal.returns-in_default-mate
returns-in_default-mate c types e legal there is =
    let same : c.in-Some.event.now ≡ e = same_came types (reverse c.args.journal.now) legal c.in-Some.event.now e c.in-Some.ensures.some.0 there (c.in-Some.ensures.some.1 ∙ sym is) in
    let mate = sym c.in_default-mate.is ∙ ap (λ (v : Event). v.mate) same in
    subst (λ mate. RaisesMate mate c.args.into.now c.args.into.now) mate refl
