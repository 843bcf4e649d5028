use Rattle.std.proofs.Common.{◌≤◌, [], ◌∷◌, subst}
use Rattle.causal_base.specs.declared.answer.Answer.TheVariants.{Known}
use Rattle.causal_base.specs.Answers.{IsAnswer}
use Rattle.causal_base.specs.Journal.{delivered_by}
use Rattle.causal_base.specs.Types.{TypeTable}
use Rattle.cut_scroll.specs.Cuts.{MovesFor}
use Rattle.cut_scroll.specs.Neighbours.{NamesLeastAfter}
use Rattle.client_session.specs.Replies.{seen_of}
use Rattle.client_session.proofs.Replying.{least_known}
use Rattle.client_session.proofs.neighbours.least_after_reply.Goals as goal

pub returns-then-trace-traces-clause-reply : goal.returns-then-trace-traces-clause-reply
returns-then-trace-traces-clause-reply g c journal stands =
    c.reply_of_no_trace.ensures.after journal stands c.args.trace
    (subst (λ (t : TypeTable). t.traces ≤ c.args.trace) c.requires (subst (λ n. n ≤ c.args.trace) c.traces.ensures.number c.if-trace-traces.true))

pub returns-in-Known-clause-reply : goal.returns-in-Known-clause-reply
returns-in-Known-clause-reply g c journal stands = least_known
    (seen_of (g.B.Causal.types c.args.book.now) (g.B.Book.clustering c.args.book.now) (g.B.Book.collectors c.args.book.now) journal)
    c.args.id c.args.trace c.in-Known.found c.id_or_nothing.result c.id_or_nothing.ensures
    (subst (λ (t : TypeTable). IsAnswer (delivered_by journal) (c.args.id ∷ []) (λ said. MovesFor (delivered_by journal) c.args.id (NamesLeastAfter t (delivered_by journal) c.args.trace said)) (Known c.in-Known.found)) c.requires (c.in-Known.ensures.answer journal stands))
