use Rattle.client_session.specs.Replies.{seen_of}
use Rattle.client_session.proofs.Replying.{event_missing}
use Rattle.client_session.proofs.replies.event_reply.Goals as goal

pub returns-in-None : goal.returns-in-None
returns-in-None g c journal stands = event_missing
    (seen_of (g.B.Causal.types c.args.book.now) (g.B.Book.clustering c.args.book.now) (g.B.Book.collectors c.args.book.now) journal)
    c.args.id (c.in-None.ensures.none journal stands)
