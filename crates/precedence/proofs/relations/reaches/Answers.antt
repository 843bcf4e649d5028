use Rattle.std.proofs.Common.{◌≡◌, ◌<◌, sym, ◌∙◌, ap, subst}
use Rattle.std.proofs.lemmas.Bool.{leb-true, le-leb}
use Rattle.causal_base.specs.declared.event.Event.{Event}
use Rattle.causal_base.specs.declared.event_id.EventId.{EventId}
use Rattle.causal_base.specs.Clocks.{IsClock}
use Rattle.causal_base.specs.Journal.{delivered_by}
use Rattle.precedence.proofs.relations.reaches.Goals as goal

pub component-requires : goal.component-requires
component-requires g c =
    let some = c.traces-traces.ensures.stands in
    let a = c.requires.a some.0 some.1 in
    subst (λ (i : EventId). i.trace < (g.C.Causal.types c.args.book.now).traces) a.2
    (c.delivered_is_on_a_trace.ensures (g.C.Causal.types c.args.book.now) some.0 (g.C.Causal.legal c.args.book.now some.0 some.1) a.0 a.1)

pub returns-clause-reach : goal.returns-clause-reach
returns-clause-reach g c journal stands x y in_x is_a in_y is_b =
    let types = g.C.Causal.types c.args.book.now in
    let legal = g.C.Causal.legal c.args.book.now journal stands in
    let its = c.in-Some.ensures.some journal stands in
    let same = c.delivered_has_own_id.ensures types journal legal its.e y its.among in_y (its.id_is ∙ sym is_b) in
    let clock = subst (λ (e : Event). IsClock types (delivered_by journal) e c.args.a.trace c.in-Some.number) same its.clock in
    let reach = c.clock_tells_reach.ensures types journal legal y in_y c.args.a.trace c.in-Some.number clock x in_x (ap (λ (i : EventId). i.trace) is_a) in
    let number : x.id.number ≡ c.args.a.number = ap (λ (i : EventId). i.number) is_a in (
      (λ yes. reach.1 (rw number (leb-true c.args.a.number c.in-Some.number yes))),
      (λ reaches. le-leb c.args.a.number c.in-Some.number (rw number at (reach.0 reaches))),
    )
