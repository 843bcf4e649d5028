use Rattle.std.proofs.Common.{◌<◌, inl, inr, length, refl, sym, subst}
use Rattle.causal_base.specs.Types.{TypeTable}
use Rattle.precedence.proofs.TwoEvents.{type_of_delivered}
use Rattle.precedence.proofs.relations.one_thing.Goals as goal

pub returns-in_default-event : goal.returns-in_default-event
returns-in_default-event g c journal stands =
    let first = c.in-Some.ensures.some journal stands in
    inr ((c.in-Some.first.now, first.0, first.1), inl (refl, c.in_default-event.ensures.none journal stands))

pub pairs-requires-clause-first : goal.pairs-requires-clause-first
pairs-requires-clause-first g c =
    let some = c.traces-traces.ensures.stands in
    subst (λ (t : TypeTable). c.in-Some.first.now.type_no < length t.rows) (sym c.requires)
    (type_of_delivered (g.C.Causal.types c.args.book.now) some.0 (g.C.Causal.legal c.args.book.now some.0 some.1) c.in-Some.first.now (c.in-Some.ensures.some some.0 some.1).0)

pub pairs-requires-clause-second : goal.pairs-requires-clause-second
pairs-requires-clause-second g c =
    let some = c.traces-traces.ensures.stands in
    subst (λ (t : TypeTable). c.in-Some-event.second.now.type_no < length t.rows) (sym c.requires)
    (type_of_delivered (g.C.Causal.types c.args.book.now) some.0 (g.C.Causal.legal c.args.book.now some.0 some.1) c.in-Some-event.second.now (c.in-Some-event.ensures.some some.0 some.1).0)
