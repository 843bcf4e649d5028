use Rattle.std.proofs.Common.{◌<◌, sym, refl, subst, arith, length, List, ℕ}
use Rattle.std.specs.Prelude.{replicate}
use Rattle.causal_base.specs.Clocks.{HasClock}
use Rattle.causal_base.specs.Journal.{delivered_by}
use Rattle.causal_base.specs.Stamps.{ClusterTimestamp}
use Rattle.precedence.specs.declared.walk.Wanted.TheVariants.{One}
use Rattle.precedence.specs.StampedJournal.{StampedJournal, AreStampsOf}
use Rattle.precedence.specs.Walking.{IsOver}
use Rattle.precedence.proofs.Bounds.{bound_of-some}
use Rattle.precedence.proofs.WholeClocks.{zeros, clock_is, part_is, steps_are}
use Rattle.precedence.proofs.Lookups.{none_without}
use Rattle.precedence.proofs.clocks.component.Goals as goal

pub returns-in_default-clause-none : goal.returns-in_default-clause-none
returns-in_default-clause-none g c w are = none_without w c.args.stamps.now.lists are c.args.id c.in_default.ensures.none

pub returns-in-Some-part-clause-some : goal.returns-in-Some-part-clause-some
returns-in-Some-part-clause-some g c w are =
    part_is w (c.laws.ensures w) c.args.stamps.now.lists are c.args.id c.in-Some.stamp c.in-Some.ensures.some c.args.trace c.in-Some-part.number c.in-Some-part.ensures.some

pub returns-in-Some-part-clause-steps : goal.returns-in-Some-part-clause-steps
returns-in-Some-part-clause-steps g c w are = let some = bound_of-some w.clustering.sizes in omega (arith, some, c.read.ensures.steps)

over_zeros : (w : StampedJournal) (lists : List (List ClusterTimestamp)) (trace : ℕ) → AreStampsOf w lists → trace < length lists → IsOver w lists (One trace) (replicate 256 0)
over_zeros w lists trace are below = let same = are.traces in let few = w.few in record { stamps = are; wide = (omega (arith, same, below), omega (arith, few)) }

pub returns-clause-some : goal.returns-clause-some
returns-clause-some g c w are =
    subst (HasClock w.types (delivered_by w.journal) c.args.id c.args.trace) (sym c.number_at.ensures)
    (clock_is w (c.laws.ensures w) c.args.stamps.now.lists are c.args.id c.in-Some.stamp c.in-Some.ensures.some (One c.args.trace) (replicate 256 0) c.take_in.new.into (zeros 256) (c.take_in.ensures.taken w (over_zeros w c.args.stamps.now.lists c.args.trace are c.requires)) c.args.trace refl)

pub returns-clause-steps : goal.returns-clause-steps
returns-clause-steps g c w are =
    steps_are w (c.laws.ensures w) c.args.stamps.now.lists are c.args.id c.in-Some.stamp c.in-Some.ensures.some c.args.steps.now c.take_in.new.steps
    (λ e is. let walked = c.take_in.ensures.steps w (over_zeros w c.args.stamps.now.lists c.args.trace are c.requires) e is in omega (arith, walked, c.read.ensures.steps))
