use Rattle.std.proofs.Common.{arith}
use Rattle.cut_scroll.proofs.NamedNearest.{greatest_is_last, greatest_is_next, greatest_is_none, last_there}
use Rattle.cut_scroll.proofs.neighbours.greatest_before.Goals as goal

pub are_one_thing-requires-clause-b : goal.are_one_thing-requires-clause-b
are_one_thing-requires-clause-b g c journal stands =
    last_there c.args.types.now (g.C.Causal.types c.args.book.now) c.requires.types journal (g.C.Causal.legal c.args.book.now journal stands) c.args.e c.args.trace c.in-Some.number (c.in-Some.ensures.some journal stands)
    (omega (arith, c.if-number-eq0.false))

pub returns-then-not-are_one_thing-clause-answer : goal.returns-then-not-are_one_thing-clause-answer
returns-then-not-are_one_thing-clause-answer g c journal stands =
    greatest_is_last c.args.types.now (g.C.Causal.types c.args.book.now) c.requires.types journal (g.C.Causal.legal c.args.book.now journal stands) c.args.e c.args.trace c.in-Some.number (c.in-Some.ensures.some journal stands)
    (omega (arith, c.if-number-eq0.false)) c.are_one_thing.result (c.are_one_thing.ensures journal stands) c.if-not-are_one_thing.true

pub returns-then-number-eq1-clause-answer : goal.returns-then-number-eq1-clause-answer
returns-then-number-eq1-clause-answer g c journal stands =
    greatest_is_none c.args.types.now (g.C.Causal.types c.args.book.now) c.requires.types journal (g.C.Causal.legal c.args.book.now journal stands) c.args.e c.args.trace c.in-Some.number (c.in-Some.ensures.some journal stands)
    (omega (arith, c.if-number-eq0.false)) c.are_one_thing.result (c.are_one_thing.ensures journal stands) c.if-not-are_one_thing.false c.if-number-eq1.true

pub returns-else-number-eq1-clause-answer : goal.returns-else-number-eq1-clause-answer
returns-else-number-eq1-clause-answer g c journal stands =
    greatest_is_next c.args.types.now (g.C.Causal.types c.args.book.now) c.requires.types journal (g.C.Causal.legal c.args.book.now journal stands) c.args.e c.args.trace c.in-Some.number (c.in-Some.ensures.some journal stands)
    (omega (arith, c.if-number-eq0.false)) c.are_one_thing.result (c.are_one_thing.ensures journal stands) c.if-not-are_one_thing.false (omega (arith, c.if-number-eq0.false, c.if-number-eq1.false))
