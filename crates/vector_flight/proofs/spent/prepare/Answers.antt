-- Room leaves the clocks as they are.
use Rattle.std.proofs.Common.{List, ℕ, subst, sym}
use Rattle.vector_flight.specs.Held.{AreOf}
use Rattle.vector_flight.proofs.spent.prepare.Goals as goal

pub returns-in_err-make_room-clause-each : goal.returns-in_err-make_room-clause-each
returns-in_err-make_room-clause-each c = c.make_room.ensures.each c.args.traces c.requires.sends (subst (λ (clocks : List (List ℕ)). AreOf c.args.traces clocks) (sym c.in_ok-reserve.ensures.items) c.requires.spent)

pub take_spent-requires : goal.take_spent-requires
take_spent-requires c = c.make_room.ensures.each c.args.traces c.requires.sends (subst (λ (clocks : List (List ℕ)). AreOf c.args.traces clocks) (sym c.in_ok-reserve.ensures.items) c.requires.spent)
