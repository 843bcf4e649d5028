-- The clock is that of the rule, and what is in flight has no clock of a send that it hadn't.
use Rattle.std.proofs.Common.{◌≡◌, ◌∷◌, ◌∙◌, ◌-◌, List, ℕ, length, subst, sym, ap, vec_len, vec_capacity}
use Rattle.causal_base.specs.Types.{TypeTable}
use Rattle.causal_base.specs.Clocks.{HasClocks}
use Rattle.causal_base.specs.History.{all_events, IsCausal}
use Rattle.causal_base.specs.Journal.{deliveries_by}
use Rattle.std.specs.Option.{option_copied}
use Rattle.vector_flight.specs.Flights.{InFlight, AreNewestClocks, IsFlightOf, block_of}
use Rattle.vector_flight.specs.Held.{AreOf}
use Rattle.vector_flight.proofs.Holding.{held_fewer, flight_fewer, is_ahead}
use Rattle.vector_flight.proofs.flight.Flight.ahead.Goals as goal

pub prepare-requires-clause-sends : goal.prepare-requires-clause-sends
prepare-requires-clause-sends g c id clock there = c.self.invariant.sent_each id clock there ∙ sym (c.len.ensures ∙ c.self.inside.newest.ok.0)

pub invariant_of-self : goal.invariant_of-self
invariant_of-self g c =
    let many : c.len.result ≡ length c.self.inside.newest.items = c.len.ensures ∙ c.self.inside.newest.ok.0 in
    held_fewer c.self.inside.newest.items c.self.inside.sends c.prepare.new.sends c.self.inside.spent.items c.prepare.new.spent.items c.self.invariant c.prepare.ensures.no_more
    (subst (λ n. AreOf n c.prepare.new.spent.items) many c.prepare.ensures.each)

pub returns-in_err-clock-clause-meaning : goal.returns-in_err-clock-clause-meaning
returns-in_err-clock-clause-meaning g c types history flight =
    flight_fewer types history _ c.prepare.new.sends _ c.prepare.ensures.no_more (subst (λ (f : InFlight). IsFlightOf types history f) (sym c.self.view_is) flight)

pub write_next-requires-clause-sends : goal.write_next-requires-clause-sends
write_next-requires-clause-sends g c id clock there =
    c.self.invariant.sent_each id clock (c.prepare.ensures.no_more id clock there) ∙ sym (ap (λ (clocks : List (List ℕ)). length clocks) c.deref.ensures.value)

pub invariant_of-self-2 : goal.invariant_of-self-2
invariant_of-self-2 g c =
    let many : c.len.result ≡ length c.self.inside.newest.items = c.len.ensures ∙ c.self.inside.newest.ok.0 in
    held_fewer c.self.inside.newest.items c.self.inside.sends c.write_next.new.sends c.self.inside.spent.items c.prepare.new.spent.items c.self.invariant
    (λ id clock there. c.prepare.ensures.no_more id clock (c.write_next.ensures.no_more id clock there))
    (subst (λ n. AreOf n c.prepare.new.spent.items) many c.prepare.ensures.each)

pub returns-clause-ahead : goal.returns-clause-ahead
returns-clause-ahead g c journal stands flight causal =
    let typed : c.args.types.now ≡ g.C.Causal.types c.args.delivered.now = c.requires.types in
    let history = deliveries_by journal in
    let block = block_of c.args.first.now (option_copied c.args.second) in
    let held = subst (λ (types : TypeTable). IsFlightOf types history (record { newest = c.self.inside.newest.items; sends = c.self.inside.sends; spare = vec_capacity c.self.inside.spent - vec_len c.self.inside.spent })) typed
    (subst (λ (f : InFlight). IsFlightOf c.args.types.now history f) (sym c.self.view_is) flight) in
    let newest = subst (λ (clocks : List (List ℕ)). AreNewestClocks (g.C.Causal.types c.args.delivered.now) (all_events history) clocks) (sym c.deref.ensures.value) held.newest_clocks in
    let written = c.write_next.ensures.clock journal stands newest (λ id clock there. held.sent_clocks id clock (c.prepare.ensures.no_more id clock there)) (subst (λ (types : TypeTable). IsCausal types (block ∷ history)) typed causal) in
    is_ahead c.args.types.now history c.args.first.now (option_copied c.args.second) c.id_of.result c.eq-is_send.result c.write_next.new.into c.id_of.ensures causal
    (λ e inside. subst (λ (types : TypeTable). HasClocks types (all_events (block ∷ history)) e.id c.write_next.new.into) (sym typed) (written e inside))

pub returns-clause-meaning : goal.returns-clause-meaning
returns-clause-meaning g c types history flight =
    flight_fewer types history _ c.write_next.new.sends _ (λ id clock there. c.prepare.ensures.no_more id clock (c.write_next.ensures.no_more id clock there)) (subst (λ (f : InFlight). IsFlightOf types history f) (sym c.self.view_is) flight)
