-- What contracts see in a desk, and what holds of its parts.
use Rattle.std.specs.Prelude.{◌≡◌, ℕ, ◌<◌, ◌↔◌, Bool, true, false, List, reverse, slice_index_or}
use Rattle.std.specs.List.{AllByRecursion}
use Rattle.causal_base.specs.declared.entry.Entry.{Entry}
use Rattle.causal_base.specs.declared.limits.TheConstants.{MOST_COLLECTORS}
use Rattle.causal_base.specs.Past.{HasEnded}
use Rattle.cluster_levels.specs.Levels as levels
use Rattle.event_book.specs.declared.setup.Setup.{Setup}
use Rattle.event_book.specs.Setups.{clustering_of, IsOfCollectors, IsSetup}
use Rattle.event_book.specs.Stamping.{StampedState}

-- how it was made, and its journal
pub record DeskState : Type 0 where
  pub setup : Setup
  pub journal : List Entry

-- which collectors have ended
abbrev pub AreEnded : List Bool → List Entry → Type 0
AreEnded ended journal = (collector : ℕ) → collector < MOST_COLLECTORS
    → (slice_index_or ended collector false ≡ true) ↔ HasEnded (reverse journal) collector

-- What holds of a desk's parts: its deliveries are of this setup, and it knows who has ended.
pub record IsDesk (setup : Setup) (state : StampedState) (ended : List Bool) : Type 0 where
  pub is_setup : IsSetup setup
  pub types_are : state.types ≡ setup.types
  pub clustering_is : levels.clustering_of state.levels ≡ clustering_of setup
  pub of_collectors : AllByRecursion (IsOfCollectors setup.collectors) state.journal
  pub are_ended : AreEnded ended state.journal
