use Rattle.std.proofs.Common.{◌≡◌, ◌*◌, ◌-◌, ◌++◌, List, length, reverse}
use Rattle.std.specs.List.{AllByRecursion}
use Rattle.causal_base.specs.declared.entry.Entry.{Entry}
use Rattle.causal_base.specs.InTurn.{DeliversSomething}
use Rattle.causal_base.specs.Past.{came}
use Rattle.causal_base.specs.PlainList.{IsOpenJournal}
use Rattle.causal_base.proofs.plain.settle.Given as goal

abbrev pub invariant-loop-block : goal.invariant-loop-block
invariant-loop-block l = record {
  kept : IsOpenJournal l.types l.journal;
  more : (more : List Entry) × (l.journal ≡ l.initial.journal ++ more) × AllByRecursion DeliversSomething more;
}

abbrev pub decreases-loop-block : goal.decreases-loop-block
decreases-loop-block l = 2 * length (came (reverse l.journal)) - length l.journal
