-- How a desk is made, and the journals that it makes.
use Rattle.std.specs.Prelude.{ℕ, ◌<◌, ◌≤◌, List, length}
use Rattle.std.specs.List.{AllByRecursion}
use Rattle.causal_base.specs.declared.entry.Entry.{Entry}
use Rattle.causal_base.specs.declared.entry.Entry.TheVariants.{Came, Gone, Pair, Ended}
use Rattle.causal_base.specs.declared.limits.TheConstants.{MOST_COLLECTORS, MOST_EVENTS}
use Rattle.causal_base.specs.Clusters.{Clustering}
use Rattle.causal_base.specs.Journal.{IsLegal, came_by}
use Rattle.causal_base.specs.TypeTables.{IsTypeTable}
use Rattle.cluster_levels.specs.Sizes.{AreSizes}
use Rattle.event_book.specs.declared.setup.Setup.{Setup}

-- how its traces are clustered
abbrev pub clustering_of : Setup → Clustering
clustering_of setup =
    record { traces = setup.types.traces; sizes = setup.sizes; after = setup.after }

-- There is a table of types, sizes, and 1 to 16 collectors.
pub record IsSetup (setup : Setup) : Type 0 where
  pub table : IsTypeTable setup.types
  pub sizes : AreSizes setup.sizes
  pub some : 1 ≤ setup.collectors
  pub most : setup.collectors ≤ MOST_COLLECTORS

-- where the entry names a collector, it is one of so many
abbrev pub IsOfCollectors : ℕ → Entry → Type 0
IsOfCollectors collectors (Came collector e) = collector < collectors
IsOfCollectors collectors (Gone a) = Unit {0}
IsOfCollectors collectors (Pair a b) = Unit {0}
IsOfCollectors collectors (Ended collector) = collector < collectors

-- The journal is legal, its collectors are those of the desk, and no more events came than may.
pub record IsJournalOf (setup : Setup) (journal : List Entry) : Type 0 where
  pub legal : IsLegal setup.types journal
  pub few : length (came_by journal) ≤ MOST_EVENTS
  pub of_collectors : AllByRecursion (IsOfCollectors setup.collectors) journal
