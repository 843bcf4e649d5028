-- The clock becomes the newest, and that of a send is kept.
use Rattle.std.proofs.Common.{length, subst, sym}
use Rattle.vector_flight.specs.Flights.{NextClock, InFlight, IsOfTraces, IsFlightOf, IsAheadOf}
use Rattle.vector_flight.proofs.Keeping.{KeepLaws, flight_kept}
use Rattle.vector_flight.proofs.Holding.{held_kept, as_replaced, read_is, keeps_first, each_of}
use Rattle.vector_flight.proofs.flight.Flight.keep.Goals as goal

pub invariant_of-self : goal.invariant_of-self
invariant_of-self c =
    let old = c.self.inside.newest.items in
    let ahead : NextClock = record { first = c.ahead.inside.first; second = c.ahead.inside.second; sent = c.ahead.inside.sent; clock = c.ahead.inside.clock } in
    let among : IsOfTraces (length old) ahead = subst (λ (a : NextClock). IsOfTraces (length old) a) (sym c.ahead.view_is) (subst (λ (f : InFlight). IsOfTraces (length f.newest) c.args.ahead) (sym c.self.view_is) c.requires.of_traces) in
    let replaced = as_replaced c.self.inside.newest.len old c.deref_mut.result.now c.replace_newest-replaced.new.newest ahead c.self.inside.newest.ok.0 c.deref_mut.ensures.value c.replace_newest-replaced.auto.newest c.replace_newest-replaced.ensures.newest in
    let read = read_is c.self.inside.newest.len old c.deref_mut.result.now c.replace_newest-replaced.new.newest ahead c.self.inside.newest.ok.0 c.deref_mut.ensures.value c.replace_newest-replaced.auto.newest c.replace_newest-replaced.ensures.newest among c.index.result.now c.index.ensures in
    held_kept old _ c.self.inside.sends c.put_away.new.sends c.self.inside.spent.items c.put_away.new.spent.items ahead c.self.invariant among replaced
    (keeps_first c.self.inside.sends c.put_away.new.sends ahead c.index.result.now read c.put_away.ensures.sends)
    (each_of (length old) ahead c.index.result.now c.self.inside.spent.items c.put_away.new.spent.items read among.as_many c.self.invariant.spent_each c.put_away.ensures.each)

pub returns-clause-stands : goal.returns-clause-stands
returns-clause-stands c types history block stands is =
    let old = c.self.inside.newest.items in
    let ahead : NextClock = record { first = c.ahead.inside.first; second = c.ahead.inside.second; sent = c.ahead.inside.sent; clock = c.ahead.inside.clock } in
    let among : IsOfTraces (length old) ahead = subst (λ (a : NextClock). IsOfTraces (length old) a) (sym c.ahead.view_is) (subst (λ (f : InFlight). IsOfTraces (length f.newest) c.args.ahead) (sym c.self.view_is) c.requires.of_traces) in
    let replaced = as_replaced c.self.inside.newest.len old c.deref_mut.result.now c.replace_newest-replaced.new.newest ahead c.self.inside.newest.ok.0 c.deref_mut.ensures.value c.replace_newest-replaced.auto.newest c.replace_newest-replaced.ensures.newest in
    let read = read_is c.self.inside.newest.len old c.deref_mut.result.now c.replace_newest-replaced.new.newest ahead c.self.inside.newest.ok.0 c.deref_mut.ensures.value c.replace_newest-replaced.auto.newest c.replace_newest-replaced.ensures.newest among c.index.result.now c.index.ensures in
    let laws : KeepLaws = record {
      stays = c.clock_stays_among_deliveries.ensures;
      is_one = c.clock_is_one.ensures;
      one = record { own = c.clock_of_one.ensures.own; other = c.clock_of_one.ensures.other };
      pair = record { first = c.clock_of_pair.ensures.first; second = c.clock_of_pair.ensures.second; other = c.clock_of_pair.ensures.other; same = c.clock_of_pair.ensures.same };
    } in
    flight_kept laws types history _ _ block ahead among replaced
    (keeps_first c.self.inside.sends c.put_away.new.sends ahead c.index.result.now read c.put_away.ensures.sends)
    (subst (λ (f : InFlight). IsFlightOf types history f) (sym c.self.view_is) stands)
    (subst (λ (a : NextClock). IsAheadOf types history block a) (sym c.ahead.view_is) is)
