use Rattle.std.proofs.Common.{◌≡◌, ◌+◌, ◌*◌, ◌≤◌, ◌<◌, ℕ, List, get_or}
use Rattle.std.specs.Prelude.{Contains}
use Rattle.causal_base.specs.declared.entry.Entry.{Entry}
use Rattle.causal_base.specs.declared.event.Event.{Event}
use Rattle.causal_base.specs.Journal.{delivered_by}
use Rattle.cut_scroll.specs.Parts.{IsUnreached}
use Rattle.cut_scroll.proofs.cut.lower.Given as goal

-- Up to here the counts are lowered, in at most 20 questions each, and from here on they are as they
-- were.
abbrev pub invariant-loop-trace : goal.invariant-loop-trace
invariant-loop-trace g l = record {
  lowered : (journal : List Entry) → g.C.Causal.stands_for l.book journal → (x : Event) → Contains (delivered_by journal) x → x.id ≡ l.e → (k : ℕ) → k < l.trace → IsUnreached (g.C.Causal.types l.book) (delivered_by journal) x k (get_or l.initial.counts k 0) (get_or l.counts k 0);
  left : (k : ℕ) → l.trace ≤ k → get_or l.counts k 0 ≡ get_or l.initial.counts k 0;
  asked : l.steps ≤ l.initial.steps + l.trace * (20 * g.C.Causal.bound l.book);
}
