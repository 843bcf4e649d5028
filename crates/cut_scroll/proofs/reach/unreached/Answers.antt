use Rattle.std.proofs.Common.{◌+◌, ◌-◌, ◌/◌, ap, arith}
use Rattle.causal_base.specs.declared.event_id.EventId.{EventId}
use Rattle.cut_scroll.proofs.DeliveredEvents.{count_most, event_with}
use Rattle.cut_scroll.proofs.Halves.{halved_all, halved_from, halved_none, halved_to, rounds_more, rounds_none}
use Rattle.cut_scroll.proofs.reach.unreached.Goals as goal

pub loop-low-init : goal.loop-low-init
loop-low-init g c =
    let types = g.C.Causal.types c.args.book.now in
    let some = c.traces-traces.ensures.stands in
    let most = c.requires.most some.0 some.1 in
    let few = count_most types some.0 (g.C.Causal.legal c.args.book.now some.0 some.1) c.args.trace in
    record {
      order = omega arith;
      within = omega arith;
      halved = λ journal stands x there is. halved_none types journal (g.C.Causal.legal c.args.book.now journal stands) x c.args.trace c.args.most;
      rounds = rounds_none c.args.most (g.C.Causal.bound c.args.book.now) c.args.steps.now (omega (arith, most, few));
    }

pub reaches-requires-clause-b : goal.reaches-requires-clause-b
reaches-requires-clause-b g c journal stands =
    let most = c.requires.most journal stands in
    let inside = c.loop-low.invariant.within in
    let open_yet = c.loop-low-test.true in
    event_with (g.C.Causal.types c.args.book.now) journal (g.C.Causal.legal c.args.book.now journal stands) c.args.trace _ (omega arith) (omega (arith, most, inside, open_yet))

pub loop-low-preserved-then-reaches : goal.loop-low-preserved-then-reaches
loop-low-preserved-then-reaches g c =
    let types = g.C.Causal.types c.args.book.now in
    let low = c.loop-low.low in
    let high = c.loop-low.high in
    let inside = c.loop-low.invariant.within in
    let open_yet = c.loop-low-test.true in
    let middle = low + (high - low) / 2 in
    record {
      order = omega arith;
      within = omega (arith, inside, open_yet);
      halved = λ journal stands x there is.
          let legal = g.C.Causal.legal c.args.book.now journal stands in
          let most = c.requires.most journal stands in
          let y = event_with types journal legal c.args.trace (middle + 1) (omega arith) (omega (arith, most, inside, open_yet)) in
          halved_to types journal legal x c.args.trace c.args.most low high (c.loop-low.invariant.halved journal stands x there is) y.0 y.1 (ap (λ (i : EventId). i.trace) y.2) middle (ap (λ (i : EventId). i.number) y.2)
          ((c.reaches.ensures.reach journal stands x y.0 there is y.1 y.2).0 c.if-reaches.true);
      rounds = rounds_more low high (g.C.Causal.bound c.args.book.now) c.loop-low.steps c.args.steps.now c.loop-low.invariant.rounds open_yet low middle c.reaches.new.steps (omega arith) c.reaches.ensures.steps;
    }

pub loop-low-preserved : goal.loop-low-preserved
loop-low-preserved g c =
    let types = g.C.Causal.types c.args.book.now in
    let low = c.loop-low.low in
    let high = c.loop-low.high in
    let inside = c.loop-low.invariant.within in
    let open_yet = c.loop-low-test.true in
    let number = low + (high - low) / 2 + 1 in
    record {
      order = omega (arith, open_yet);
      within = inside;
      halved = λ journal stands x there is.
          let legal = g.C.Causal.legal c.args.book.now journal stands in
          let most = c.requires.most journal stands in
          let y = event_with types journal legal c.args.trace number (omega arith) (omega (arith, most, inside, open_yet)) in
          halved_from types journal legal x c.args.trace c.args.most low high (c.loop-low.invariant.halved journal stands x there is) y.0 y.1 (ap (λ (i : EventId). i.trace) y.2) number (ap (λ (i : EventId). i.number) y.2)
          (λ reaches. let yes = (c.reaches.ensures.reach journal stands x y.0 there is y.1 y.2).1 reaches in let no = c.if-reaches.false in cc);
      rounds = rounds_more low high (g.C.Causal.bound c.args.book.now) c.loop-low.steps c.args.steps.now c.loop-low.invariant.rounds open_yet number high c.reaches.new.steps (omega arith) c.reaches.ensures.steps;
    }

pub returns-clause-unreached : goal.returns-clause-unreached
returns-clause-unreached g c journal stands x there is =
    halved_all (g.C.Causal.types c.args.book.now) journal (g.C.Causal.legal c.args.book.now journal stands) x c.args.trace c.args.most c.loop-low.low c.loop-low.high c.loop-low.invariant.order c.loop-low-test.false c.loop-low.invariant.within
    (c.loop-low.invariant.halved journal stands x there is)
