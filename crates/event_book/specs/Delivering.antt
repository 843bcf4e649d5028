-- How the journal of a delivery goes on, and what the next one needs.
use Rattle.std.specs.Prelude.{◌≡◌, List, ◌++◌, Option}
use Rattle.std.specs.Option.{option_map, option_to_list}
use Rattle.causal_base.specs.declared.block.Block.{Block}
use Rattle.causal_base.specs.declared.entry.Entry.{Entry}
use Rattle.causal_base.specs.Clusters.{communications}
use Rattle.causal_base.specs.Journal.{deliveries_by}
use Rattle.cluster_levels.specs.Levels.{clustering_of}
use Rattle.cluster_members.specs.Kept.{AreKept, KeptLists}
use Rattle.delivery.specs.Leading.{entry_of}
use Rattle.vector_flight.specs.Flights.{InFlight, IsFlightOf}
use Rattle.event_book.specs.Stamping.{StampedState}

-- the entry by which a block is delivered, where there is one
abbrev pub entries_of : Option Block → List Entry
entries_of block = option_to_list (option_map entry_of block)

-- The journal goes on by these entries, with the same types and the same rule of merging.
pub record GoesOn (old new : StampedState) (entries : List Entry) : Type 0 where
  pub types : new.types ≡ old.types
  pub journal : new.journal ≡ old.journal ++ entries
  pub clustering : clustering_of new.levels ≡ clustering_of old.levels

-- What the next delivery needs belongs to the journal: the lists of members, and the clocks.
pub record AreAtHand (state : StampedState) (members : KeptLists) (flight : InFlight)
    : Type 0 where
  pub kept : AreKept (clustering_of state.levels)
      (communications (deliveries_by state.journal)) members
  pub in_flight : IsFlightOf state.types (deliveries_by state.journal) flight
