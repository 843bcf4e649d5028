use Rattle.std.proofs.Common.{◌≡◌, ◌-◌, ◌≤◌, List}
use Rattle.std.specs.Prelude.{Contains}
use Rattle.causal_base.specs.declared.entry.Entry.{Entry}
use Rattle.causal_base.specs.declared.event.Event.{Event}
use Rattle.causal_base.specs.Journal.{delivered_by}
use Rattle.cut_scroll.proofs.Halves.{HasRounds, IsHalved}
use Rattle.cut_scroll.proofs.reach.unreached.Given as goal

abbrev pub invariant-loop-low : goal.invariant-loop-low
invariant-loop-low g l = record {
  order : l.low ≤ l.high;
  within : l.high ≤ l.most;
  halved : (journal : List Entry) → g.C.Causal.stands_for l.book journal → (x : Event) → Contains (delivered_by journal) x → x.id ≡ l.e → IsHalved (g.C.Causal.types l.book) journal x l.trace l.most l.low l.high;
  rounds : HasRounds l.low l.high (g.C.Causal.bound l.book) l.steps l.initial.steps;
}

abbrev pub decreases-loop-low : goal.decreases-loop-low
decreases-loop-low g l = l.high - l.low
