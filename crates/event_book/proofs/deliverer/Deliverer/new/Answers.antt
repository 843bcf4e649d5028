use Rattle.std.proofs.Common.{List, [], sym, ◌∙◌, subst}
use Rattle.causal_base.specs.declared.entry.Entry.{Entry}
use Rattle.causal_base.specs.Clusters.{communications}
use Rattle.causal_base.specs.Journal.{deliveries_by}
use Rattle.causal_base.specs.Types.{TypeTable}
use Rattle.cluster_levels.specs.Levels.{ClusterLevels, clustering_of}
use Rattle.cluster_members.specs.Kept.{AreKept}
use Rattle.vector_flight.specs.Flights.{IsFlightOf}
use Rattle.event_book.proofs.deliverer.Deliverer.new.Goals as goal

pub invariant_of-result : goal.invariant_of-result
invariant_of-result c = record {
  kept =
      subst (λ (j : List Entry). AreKept (clustering_of c.in_ok-new.field-0.levels) (communications (deliveries_by j)) c.in_ok-members.members) (sym c.in_ok-new.ensures.journal)
      (subst (λ (l : ClusterLevels). AreKept (clustering_of l) [] c.in_ok-members.members) (sym c.in_ok-new.ensures.levels) (c.in_ok-members.ensures []));
  in_flight =
      subst (λ (j : List Entry). IsFlightOf c.in_ok-new.field-0.types (deliveries_by j) c.in_ok-flight.flight) (sym c.in_ok-new.ensures.journal)
      (subst (λ (t : TypeTable). IsFlightOf t [] c.in_ok-flight.flight) (sym c.in_ok-new.ensures.types) (c.in_ok-flight.ensures.stands c.args.types (sym (c.traces.ensures.number ∙ c.requires.traces))));
}
