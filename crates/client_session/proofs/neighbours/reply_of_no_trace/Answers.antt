use Rattle.std.proofs.Common.{inl, refl}
use Rattle.client_session.specs.Replies.{seen_of}
use Rattle.client_session.proofs.Replying.{none_after, none_before}
use Rattle.client_session.proofs.neighbours.reply_of_no_trace.Goals as goal

pub returns-in-Some-clause-before : goal.returns-in-Some-clause-before
returns-in-Some-clause-before g c journal stands trace beyond =
    let there = c.in-Some.ensures.some journal stands in
    none_before
    (seen_of (g.B.Causal.types c.args.book.now) (g.B.Book.clustering c.args.book.now) (g.B.Book.collectors c.args.book.now) journal)
    c.args.id trace (c.in-Some.field-0.now, there.0, there.1)
    (c.delivered_is_on_a_trace.ensures (g.B.Causal.types c.args.book.now) journal (g.B.Causal.legal c.args.book.now journal stands)) beyond

pub returns-in-Some-clause-after : goal.returns-in-Some-clause-after
returns-in-Some-clause-after g c journal stands trace beyond =
    let there = c.in-Some.ensures.some journal stands in
    none_after
    (seen_of (g.B.Causal.types c.args.book.now) (g.B.Book.clustering c.args.book.now) (g.B.Book.collectors c.args.book.now) journal)
    c.args.id trace (c.in-Some.field-0.now, there.0, there.1)
    (c.delivered_is_on_a_trace.ensures (g.B.Causal.types c.args.book.now) journal (g.B.Causal.legal c.args.book.now journal stands)) beyond

pub returns-in-None-clause-before : goal.returns-in-None-clause-before
returns-in-None-clause-before g c journal stands trace beyond cut = inl (c.args.id, inl (refl, c.in-None.ensures.none journal stands), refl, refl)

pub returns-in-None-clause-after : goal.returns-in-None-clause-after
returns-in-None-clause-after g c journal stands trace beyond cut = inl (c.args.id, inl (refl, c.in-None.ensures.none journal stands), refl, refl)
