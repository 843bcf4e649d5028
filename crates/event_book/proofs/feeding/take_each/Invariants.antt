use Rattle.std.proofs.Common.{◌≡◌, ◌+◌, ◌≤◌, length, reverse}
use Rattle.causal_base.specs.Past.{HasEnded}
use Rattle.cluster_levels.specs.Levels.{clustering_of}
use Rattle.event_book.specs.Feeding.{no_report, Takes}
use Rattle.event_book.proofs.feeding.take_each.Given as goal

-- those before it were taken
abbrev pub invariant-loop-event : goal.invariant-loop-event
invariant-loop-event l = record {
  can : (goal.iterator-loop-event).can_next l.event-iterator;
  ends : (goal.iterator-loop-event).is_finite l.event-iterator;
  types : l.deliverer.types ≡ l.initial.deliverer.types;
  clustering : clustering_of l.deliverer.levels ≡ clustering_of l.initial.deliverer.levels;
  open_yet : HasEnded (reverse l.deliverer.journal) l.collector → ⊥;
  takes : Takes l.initial.deliverer.types l.collector l.yielded l.initial.deliverer.journal no_report l.deliverer.journal l.counting.report;
  room : l.initial.counting.room ≤ l.counting.room + length l.yielded;
}
