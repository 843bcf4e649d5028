use Rattle.std.proofs.Common.{List}
use Rattle.causal_base.specs.declared.entry.Entry.{Entry}
use Rattle.client_session.specs.Replies.{seen_of}
use Rattle.client_session.specs.StampParts.{ArePartsBelow}
use Rattle.client_session.proofs.replies.stamp_parts.Given as goal

-- the parts of the traces so far are gathered
abbrev pub invariant-loop-trace : goal.invariant-loop-trace
invariant-loop-trace g l = (journal : List Entry) → g.B.Causal.stands_for l.book journal
    → ArePartsBelow (seen_of (g.B.Causal.types l.book) (g.B.Book.clustering l.book) (g.B.Book.collectors l.book) journal) l.id l.trace l.parts.items
