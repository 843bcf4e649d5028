use Rattle.std.proofs.Common.{◌≡◌, ◌∙◌, sym, subst, arith, length}
use Rattle.std.specs.Prelude.{replicate}
use Rattle.precedence.specs.declared.walk.Wanted.TheVariants.{All}
use Rattle.precedence.specs.Walking.{IsOver}
use Rattle.precedence.proofs.WholeClocks.{AreZeros, zeros, clock_is, steps_are}
use Rattle.precedence.proofs.Lookups.{none_without}
use Rattle.precedence.proofs.clocks.clock.Goals as goal

pub returns-in_default-clause-absent : goal.returns-in_default-clause-absent
returns-in_default-clause-absent g c w are = none_without w c.args.stamps.now.lists are c.args.id c.in_default.ensures.none

pub returns-clause-delivered : goal.returns-clause-delivered
returns-clause-delivered g c w are trace below =
    let numbers = c.fill.new.self in
    let all : numbers ≡ replicate (length c.args.into.now) 0 = c.fill.ensures.after (λ y is. is) in
    let begin : AreZeros numbers = subst AreZeros (sym all) (zeros (length c.args.into.now)) in
    let over : IsOver w c.args.stamps.now.lists All numbers = record { stamps = are; wide = c.fill.ensures.len ∙ c.requires ∙ are.traces } in
    clock_is w (c.laws.ensures w) c.args.stamps.now.lists are c.args.id c.in-Some.stamp c.in-Some.ensures.some All numbers c.take_in.new.into begin (c.take_in.ensures.taken w over) trace below

pub returns-clause-steps : goal.returns-clause-steps
returns-clause-steps g c w are =
    let over : IsOver w c.args.stamps.now.lists All c.fill.new.self = record { stamps = are; wide = c.fill.ensures.len ∙ c.requires ∙ are.traces } in
    steps_are w (c.laws.ensures w) c.args.stamps.now.lists are c.args.id c.in-Some.stamp c.in-Some.ensures.some c.args.steps.now c.take_in.new.steps
    (λ e is. let walked = c.take_in.ensures.steps w over e is in omega (arith, walked, c.read.ensures.steps))
