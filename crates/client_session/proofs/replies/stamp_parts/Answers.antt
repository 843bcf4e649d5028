use Rattle.std.proofs.Common.{◌+◌, List, ◌∙◌, ap, subst, sym}
use Rattle.std.specs.Prelude.{ℕ}
use Rattle.client_session.specs.Replies.{seen_of}
use Rattle.client_session.specs.StampParts.{ArePartsBelow}
use Rattle.client_session.proofs.StampShown.{with_part, without_part}
use Rattle.client_session.proofs.replies.stamp_parts.Goals as goal
use Rattle.client_session.proofs.replies.stamp_parts.Goals.{in-Some+in_ok-push, in_default}

pub loop-trace-preserved : goal.loop-trace-preserved
loop-trace-preserved g c journal stands =
    let seen = seen_of (g.B.Causal.types c.args.book.now) (g.B.Book.clustering c.args.book.now) (g.B.Book.collectors c.args.book.now) journal in
    let so_far = c.loop-trace.invariant journal stands in
    elim c.match-stamp_part.branch [
      | in-Some+in_ok-push w ↦
          let part = w.in-Some.ensures.some journal stands in
          subst (λ (parts : List (ℕ × ℕ)). ArePartsBelow seen c.args.id (c.loop-trace.trace + 1) parts) (sym (ap (λ v. v.items) w.parts-is ∙ w.in_ok-push.ensures.items))
          (with_part seen c.args.id c.loop-trace.trace c.loop-trace.parts.items so_far w.in-Some.number part.0 part.1)
      | in_default w ↦
          let none = w.in_default.ensures.none journal stands (c.requires journal stands) in
          subst (λ (parts : List (ℕ × ℕ)). ArePartsBelow seen c.args.id (c.loop-trace.trace + 1) parts) (sym (ap (λ v. v.items) w.parts-is))
          (without_part seen c.args.id c.loop-trace.trace c.loop-trace.parts.items so_far none)
    ]
