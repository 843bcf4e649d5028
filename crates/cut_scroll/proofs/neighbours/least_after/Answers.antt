use Rattle.std.proofs.Common.{arith}
use Rattle.cut_scroll.proofs.NamedNearest.{first_there, least_is_first, least_is_next, least_is_none, least_is_past}
use Rattle.cut_scroll.proofs.neighbours.least_after.Goals as goal

pub returns-then-before-count-clause-answer : goal.returns-then-before-count-clause-answer
returns-then-before-count-clause-answer g c journal stands =
    let its = c.in-Some.ensures.some journal stands in
    least_is_none c.args.types.now (g.C.Causal.types c.args.book.now) c.requires.types journal (g.C.Causal.legal c.args.book.now journal stands) c.args.e (c.in-Some.field-0.now, its.0, its.1) c.args.trace c.count-count.result c.unreached-before.result (c.count-count.ensures journal stands)
    (c.unreached-before.ensures.unreached journal stands c.in-Some.field-0.now its.0 its.1) c.if-before-count.true

pub are_one_thing-requires-clause-b : goal.are_one_thing-requires-clause-b
are_one_thing-requires-clause-b g c journal stands =
    let its = c.in-Some.ensures.some journal stands in
    first_there c.args.types.now (g.C.Causal.types c.args.book.now) c.requires.types journal (g.C.Causal.legal c.args.book.now journal stands) c.args.e (c.in-Some.field-0.now, its.0, its.1) c.args.trace c.count-count.result c.unreached-before.result (c.count-count.ensures journal stands)
    (c.unreached-before.ensures.unreached journal stands c.in-Some.field-0.now its.0 its.1) (let within = c.unreached-before.ensures.within in omega (arith, within, c.if-before-count.false))

pub returns-then-not-are_one_thing-clause-answer : goal.returns-then-not-are_one_thing-clause-answer
returns-then-not-are_one_thing-clause-answer g c journal stands =
    let its = c.in-Some.ensures.some journal stands in
    least_is_first c.args.types.now (g.C.Causal.types c.args.book.now) c.requires.types journal (g.C.Causal.legal c.args.book.now journal stands) c.args.e (c.in-Some.field-0.now, its.0, its.1) c.args.trace c.count-count.result c.unreached-before.result (c.count-count.ensures journal stands)
    (c.unreached-before.ensures.unreached journal stands c.in-Some.field-0.now its.0 its.1) (let within = c.unreached-before.ensures.within in omega (arith, within, c.if-before-count.false)) c.are_one_thing.result (c.are_one_thing.ensures journal stands) c.if-not-are_one_thing.true

pub returns-then-first-count-clause-answer : goal.returns-then-first-count-clause-answer
returns-then-first-count-clause-answer g c journal stands =
    let its = c.in-Some.ensures.some journal stands in
    least_is_past c.args.types.now (g.C.Causal.types c.args.book.now) c.requires.types journal (g.C.Causal.legal c.args.book.now journal stands) c.args.e (c.in-Some.field-0.now, its.0, its.1) c.args.trace c.count-count.result c.unreached-before.result (c.count-count.ensures journal stands)
    (c.unreached-before.ensures.unreached journal stands c.in-Some.field-0.now its.0 its.1) (let within = c.unreached-before.ensures.within in omega (arith, within, c.if-before-count.false)) c.are_one_thing.result (c.are_one_thing.ensures journal stands) c.if-not-are_one_thing.false c.if-first-count.true

pub returns-else-first-count-clause-answer : goal.returns-else-first-count-clause-answer
returns-else-first-count-clause-answer g c journal stands =
    let its = c.in-Some.ensures.some journal stands in
    least_is_next c.args.types.now (g.C.Causal.types c.args.book.now) c.requires.types journal (g.C.Causal.legal c.args.book.now journal stands) c.args.e (c.in-Some.field-0.now, its.0, its.1) c.args.trace c.count-count.result c.unreached-before.result (c.count-count.ensures journal stands)
    (c.unreached-before.ensures.unreached journal stands c.in-Some.field-0.now its.0 its.1) (let within = c.unreached-before.ensures.within in omega (arith, within, c.if-before-count.false)) c.are_one_thing.result (c.are_one_thing.ensures journal stands) c.if-not-are_one_thing.false (let within = c.unreached-before.ensures.within in omega (arith, within, c.if-before-count.false, c.if-first-count.false))
