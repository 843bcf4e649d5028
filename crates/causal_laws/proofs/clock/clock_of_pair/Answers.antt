use Rattle.causal_base.specs.History.{together, all_events}
use Rattle.std.proofs.Common.{◌∷◌}
use Rattle.causal_base.proofs.CallerLemmas.{Contains-here, Contains-there, pairs_swapped}
use Rattle.causal_laws.proofs.Entries.{partner_clock}
use Rattle.causal_laws.proofs.VectorLaws.{own_first, own_second, clock_together}
use Rattle.causal_laws.proofs.clock.clock_of_pair.Goals as goal

pub returns-clause-first : goal.returns-clause-first
returns-clause-first c types past a b new = own_first types past a b new

pub returns-clause-second : goal.returns-clause-second
returns-clause-second c types past a b new =
    partner_clock types (all_events (together a b ∷ past)) b a (Contains-here b (a ∷ all_events past)) (Contains-there b (a ∷ all_events past) a (Contains-here a (all_events past)))
    (pairs_swapped types a b new.0.2) b.id.trace b.id.number (own_second types past a b new)

pub returns-clause-other : goal.returns-clause-other
returns-clause-other c types past a b new trace m n not_a not_b first second = clock_together types past new.1 trace a b new m n not_a not_b first second

pub returns-clause-same : goal.returns-clause-same
returns-clause-same c types past a b new trace n =
    let events = all_events (together a b ∷ past) in
    let in_b = Contains-here b (a ∷ all_events past) in
    let in_a = Contains-there b (a ∷ all_events past) a (Contains-here a (all_events past)) in
    (partner_clock types events a b in_a in_b new.0.2 trace n, partner_clock types events b a in_b in_a (pairs_swapped types a b new.0.2) trace n)
