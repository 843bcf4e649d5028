use Rattle.std.proofs.Common.{◌≡◌, ◌<◌, ap, subst}
use Rattle.std.proofs.lemmas.Bool.{leb-true, le-leb}
use Rattle.causal_base.specs.declared.event_id.EventId.{EventId}
use Rattle.cut_scroll.proofs.DeliveredEvents.{clock_limit, on_a_trace}
use Rattle.cut_scroll.proofs.reach.reaches.Goals as goal

pub component-requires : goal.component-requires
component-requires g c =
    let some = c.traces-traces.ensures.stands in
    let a = c.requires.a some.0 some.1 in
    subst (λ (i : EventId). i.trace < (g.C.Causal.types c.args.book.now).traces) a.2
    (on_a_trace (g.C.Causal.types c.args.book.now) some.0 (g.C.Causal.legal c.args.book.now some.0 some.1) a.0 a.1)

pub returns-clause-reach : goal.returns-clause-reach
returns-clause-reach g c journal stands x y in_x is_a in_y is_b =
    let types = g.C.Causal.types c.args.book.now in
    let legal = g.C.Causal.legal c.args.book.now journal stands in
    let its = c.in-Some.ensures.some journal stands in
    let limit = clock_limit types journal legal c.args.b y in_y is_b c.args.a.trace c.in-Some.number its in
    let on = ap (λ (i : EventId). i.trace) is_a in
    let number : x.id.number ≡ c.args.a.number = ap (λ (i : EventId). i.number) is_a in (
      (λ yes. limit.to x in_x on (rw number (leb-true c.args.a.number c.in-Some.number yes))),
      (λ reaches. le-leb c.args.a.number c.in-Some.number (rw number at (limit.from x in_x on reaches))),
    )
