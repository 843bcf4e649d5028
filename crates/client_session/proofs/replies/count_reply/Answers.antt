use Rattle.std.proofs.Common.{arith}
use Rattle.client_session.specs.Replies.{seen_of}
use Rattle.client_session.proofs.Replying.{delivered_few, count_known}
use Rattle.client_session.proofs.replies.count_reply.Goals as goal

pub overflow_sub-result : goal.overflow_sub-result
overflow_sub-result g c =
    let journal = c.traces-traces.ensures.stands.0 in
    let stands = c.traces-traces.ensures.stands.1 in
    let few = delivered_few (g.B.Causal.types c.args.book.now) journal (g.B.Causal.legal c.args.book.now journal stands) in
    let accepted = c.accepted-accepted.ensures journal stands in
    let delivered = c.count_delivered-delivered.ensures journal stands in
    omega (arith, few, accepted, delivered)

pub returns : goal.returns
returns g c journal stands = count_known
    (seen_of (g.B.Causal.types c.args.book.now) (g.B.Book.clustering c.args.book.now) (g.B.Book.collectors c.args.book.now) journal)
    c.accepted-accepted.result c.count_delivered-delivered.result (c.accepted-accepted.ensures journal stands) (c.count_delivered-delivered.ensures journal stands)
