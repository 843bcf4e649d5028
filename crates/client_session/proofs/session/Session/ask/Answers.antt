use Rattle.std.proofs.Common.{List, sym, subst}
use Rattle.std.specs.Prelude.{ℕ}
use Rattle.std.proofs.lemmas.Result.{IfOk-weaker}
use Rattle.causal_base.specs.Journal.{IsLegal, delivered_by}
use Rattle.causal_base.specs.Types.{TypeTable}
use Rattle.cut_scroll.specs.Cuts.{IsConsistent}
use Rattle.client_session.specs.declared.command.Command.TheVariants.{Before, Relation, Event, Stamp, GreatestBefore, LeastAfter, CutTo, CutBack, Count, Await}
use Rattle.client_session.specs.Replies.{IsReply, seen_of}
use Rattle.client_session.proofs.Replying.{consistent_after_none, moved_to, reply_to}
use Rattle.client_session.proofs.session.Session.ask.Goals as goal

pub returns-in-Before-clause-reply : goal.returns-in-Before-clause-reply
returns-in-Before-clause-reply g c journal stands = reply_to c.args.types.now (g.B.Causal.types c.args.book.now) c.requires.types
    (g.B.Book.clustering c.args.book.now) (g.B.Book.collectors c.args.book.now) journal c.args.command.now (Before c.in-Before.a c.in-Before.b) c.in-Before.is c.before_reply.result (c.before_reply.ensures.reply journal stands) c.args.self.now

pub returns-in-Relation-clause-reply : goal.returns-in-Relation-clause-reply
returns-in-Relation-clause-reply g c journal stands = reply_to c.args.types.now (g.B.Causal.types c.args.book.now) c.requires.types
    (g.B.Book.clustering c.args.book.now) (g.B.Book.collectors c.args.book.now) journal c.args.command.now (Relation c.in-Relation.a c.in-Relation.b) c.in-Relation.is c.relation_reply.result (c.relation_reply.ensures.reply journal stands) c.args.self.now

pub returns-in-Count-clause-reply : goal.returns-in-Count-clause-reply
returns-in-Count-clause-reply g c journal stands = reply_to c.args.types.now (g.B.Causal.types c.args.book.now) c.requires.types
    (g.B.Book.clustering c.args.book.now) (g.B.Book.collectors c.args.book.now) journal c.args.command.now Count c.in-Count.is c.count_reply.result (c.count_reply.ensures journal stands) c.args.self.now

pub returns-in-Await-clause-reply : goal.returns-in-Await-clause-reply
returns-in-Await-clause-reply g c journal stands = reply_to c.args.types.now (g.B.Causal.types c.args.book.now) c.requires.types
    (g.B.Book.clustering c.args.book.now) (g.B.Book.collectors c.args.book.now) journal c.args.command.now (Await c.in-Await.id) c.in-Await.is c.await_reply.result (c.await_reply.ensures journal stands) c.args.self.now

pub returns-in-Event-clause-reply : goal.returns-in-Event-clause-reply
returns-in-Event-clause-reply g c = IfOk-weaker c.event_reply.result _ _ (λ reply has journal stands. reply_to c.args.types.now (g.B.Causal.types c.args.book.now) c.requires.types
    (g.B.Book.clustering c.args.book.now) (g.B.Book.collectors c.args.book.now) journal c.args.command.now (Event c.in-Event.id) c.in-Event.is reply (has journal stands) c.args.self.now) c.event_reply.ensures

pub returns-in-Stamp-clause-reply : goal.returns-in-Stamp-clause-reply
returns-in-Stamp-clause-reply g c = IfOk-weaker c.stamp_reply.result _ _ (λ reply has journal stands. reply_to c.args.types.now (g.B.Causal.types c.args.book.now) c.requires.types
    (g.B.Book.clustering c.args.book.now) (g.B.Book.collectors c.args.book.now) journal c.args.command.now (Stamp c.in-Stamp.id) c.in-Stamp.is reply (has journal stands) c.args.self.now) c.stamp_reply.ensures

pub returns-in-GreatestBefore-clause-reply : goal.returns-in-GreatestBefore-clause-reply
returns-in-GreatestBefore-clause-reply g c journal stands = reply_to c.args.types.now (g.B.Causal.types c.args.book.now) c.requires.types
    (g.B.Book.clustering c.args.book.now) (g.B.Book.collectors c.args.book.now) journal c.args.command.now (GreatestBefore c.in-GreatestBefore.id c.in-GreatestBefore.trace) c.in-GreatestBefore.is c.greatest_before_reply.result (c.greatest_before_reply.ensures.reply journal stands) c.args.self.now

pub returns-in-LeastAfter-clause-reply : goal.returns-in-LeastAfter-clause-reply
returns-in-LeastAfter-clause-reply g c journal stands = reply_to c.args.types.now (g.B.Causal.types c.args.book.now) c.requires.types
    (g.B.Book.clustering c.args.book.now) (g.B.Book.collectors c.args.book.now) journal c.args.command.now (LeastAfter c.in-LeastAfter.id c.in-LeastAfter.trace) c.in-LeastAfter.is c.least_after_reply.result (c.least_after_reply.ensures.reply journal stands) c.args.self.now

pub returns-in-CutNone-clause-consistent : goal.returns-in-CutNone-clause-consistent
returns-in-CutNone-clause-consistent g c journal stands =
    let types = c.args.types.now in
    let legal = subst (λ (t : TypeTable). IsLegal t journal) (sym c.requires.types) (g.B.Causal.legal c.args.book.now journal stands) in
    consistent_after_none types (delivered_by journal) c.cut_none_reply.result c.self.inside.cut c.cut_none_reply.new.cut c.cut_none_reply.ensures.empty c.cut_none_reply.ensures.unchanged
    (c.ends_are_consistent.ensures.empty types journal legal) (subst (λ (m : List ℕ). IsConsistent types (delivered_by journal) m) (sym c.self.view_is) (c.requires.consistent journal stands))

pub returns-in-CutTo-clause-reply : goal.returns-in-CutTo-clause-reply
returns-in-CutTo-clause-reply g c = IfOk-weaker c.cut_to_reply.result _ _ (λ reply has journal stands. moved_to c.args.types.now (g.B.Causal.types c.args.book.now) c.requires.types
    (g.B.Book.clustering c.args.book.now) (g.B.Book.collectors c.args.book.now) journal c.args.command.now (CutTo c.in-CutTo.id) c.in-CutTo.is reply c.args.self.now c.cut_to_reply.new.cut
    (subst (λ (m : List ℕ). IsReply (seen_of (g.B.Causal.types c.args.book.now) (g.B.Book.clustering c.args.book.now) (g.B.Book.collectors c.args.book.now) journal) m (CutTo c.in-CutTo.id) reply c.cut_to_reply.new.cut) c.self.view_is (has journal stands))) c.cut_to_reply.ensures.reply

pub returns-in-CutBack-clause-reply : goal.returns-in-CutBack-clause-reply
returns-in-CutBack-clause-reply g c = IfOk-weaker c.cut_back_reply.result _ _ (λ reply has journal stands. moved_to c.args.types.now (g.B.Causal.types c.args.book.now) c.requires.types
    (g.B.Book.clustering c.args.book.now) (g.B.Book.collectors c.args.book.now) journal c.args.command.now (CutBack c.in-CutBack.id) c.in-CutBack.is reply c.args.self.now c.cut_back_reply.new.cut
    (subst (λ (m : List ℕ). IsReply (seen_of (g.B.Causal.types c.args.book.now) (g.B.Book.clustering c.args.book.now) (g.B.Book.collectors c.args.book.now) journal) m (CutBack c.in-CutBack.id) reply c.cut_back_reply.new.cut) c.self.view_is (has journal stands))) c.cut_back_reply.ensures.reply
