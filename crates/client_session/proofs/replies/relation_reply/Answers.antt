use Rattle.std.proofs.Common.{subst}
use Rattle.causal_base.specs.declared.answer.Answer.TheVariants.{Known}
use Rattle.causal_base.specs.Journal.{delivered_by}
use Rattle.causal_base.specs.Types.{TypeTable}
use Rattle.precedence.specs.Relations.{IsRelationAnswer}
use Rattle.client_session.specs.Replies.{seen_of}
use Rattle.client_session.proofs.Replying.{relation_known}
use Rattle.client_session.proofs.replies.relation_reply.Goals as goal

pub returns-in-Known-clause-reply : goal.returns-in-Known-clause-reply
returns-in-Known-clause-reply g c journal stands = relation_known
    (seen_of (g.B.Causal.types c.args.book.now) (g.B.Book.clustering c.args.book.now) (g.B.Book.collectors c.args.book.now) journal)
    c.args.a c.args.b c.in-Known.related c.word_of.result c.word_of.ensures
    (subst (λ (t : TypeTable). IsRelationAnswer t (delivered_by journal) c.args.a c.args.b (Known c.in-Known.related)) c.requires (c.in-Known.ensures.answer journal stands))
