use Rattle.std.proofs.Common.{◌≡◌, ◌-◌, length}
use Rattle.causal_base.specs.Journal.{came_by, delivered_by}
use Rattle.cluster_levels.specs.Levels.{clustering_of}
use Rattle.event_book.specs.Feeding.{Delivers}
use Rattle.event_book.proofs.deliverer.Deliverer.settle.Given as goal

-- deliveries alone so far
abbrev pub invariant-loop : goal.invariant-loop
invariant-loop l = record {
  types : l.self.types ≡ l.initial.self.types;
  clustering : clustering_of l.self.levels ≡ clustering_of l.initial.self.levels;
  delivers : Delivers l.initial.self.types l.initial.self.journal l.self.journal;
}

-- how many events are still to be delivered
abbrev pub decreases-loop : goal.decreases-loop
decreases-loop l = length (came_by l.self.journal) - length (delivered_by l.self.journal)
