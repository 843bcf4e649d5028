use Rattle.std.proofs.Common.{refl, sym, subst}
use Rattle.std.proofs.Common.{inl}
use Rattle.std.specs.Prelude.{ℕ}
use Rattle.answer_text.specs.declared.reply.Reply.TheVariants.{Stamped}
use Rattle.client_session.specs.Replies.{seen_of}
use Rattle.client_session.specs.StampParts.{ArePartsBelow}
use Rattle.client_session.proofs.Replying.{stamp_known}
use Rattle.client_session.proofs.StampShown.{shown}
use Rattle.client_session.proofs.replies.stamp_reply.Goals as goal

pub returns-in_default : goal.returns-in_default
returns-in_default g c journal stands cut = inl (c.args.id, inl (refl, c.in_default.ensures.none journal stands), refl, refl)

pub returns : goal.returns
returns g c journal stands =
    let types = g.B.Causal.types c.args.book.now in
    let seen = seen_of types (g.B.Book.clustering c.args.book.now) (g.B.Book.collectors c.args.book.now) journal in
    let legal = g.B.Causal.legal c.args.book.now journal stands in
    let level = c.in-Some.ensures.some journal stands in
    let parts = subst (λ (n : ℕ). ArePartsBelow seen c.args.id n c.in_ok-stamp_parts.field-0) (sym (g.met.B.Book.as_many_traces c.args.book.now)) (c.in_ok-stamp_parts.ensures journal stands) in
    stamp_known seen c.args.id (Stamped c.in-Some.level c.in_ok-stamp_parts.field-0)
    (shown seen c.args.id c.in-Some.level c.in_ok-stamp_parts.field-0 (c.delivered_has_own_id.ensures types journal legal) (c.own_history_has_clock.ensures types journal legal) level.0 level.1 parts)
