-- What was dropped has as many numbers as each.
use Rattle.std.proofs.Common.{◌≡◌, List, ℕ, length, subst, sym}
use Rattle.std.proofs.lemmas.List.Elements.{All-push}
use Rattle.vector_flight.specs.Held.{AreOf}
use Rattle.vector_flight.proofs.spent.make_room.Goals as goal

pub returns-in-Some-clause-each : goal.returns-in-Some-clause-each
returns-in-Some-clause-each c traces sent each =
    let was = rw c.in-Some.is at c.in_ok-dropped.ensures.dropped in
    subst (λ (clocks : List (List ℕ)). AreOf traces clocks) (sym c.push_reserved.ensures.items)
    (All-push (λ (clock : List ℕ). length clock ≡ traces) c.args.spent.now.items c.in-Some.dropped each (sent was.0 c.in-Some.dropped was.1))
