-- The journal of a delivery and its stamps, as those that clocks are told from.
use Rattle.std.proofs.Common.{◌≡◌, ◌<◌, ◌≤◌, ℕ, Bool, List, length, refl, subst, arith}
use Rattle.std.specs.Prelude.{slice_index}
use Rattle.causal_base.specs.declared.entry.Entry.{Entry}
use Rattle.causal_base.specs.declared.limits.TheConstants.{MOST_TRACES}
use Rattle.causal_base.specs.Types.{TypeTable}
use Rattle.causal_base.specs.Clusters.{Clustering}
use Rattle.causal_base.specs.Journal.{IsLegal}
use Rattle.causal_base.specs.Stamps.{ClusterTimestamp}
use Rattle.cluster_levels.specs.Levels.{clustering_of}
use Rattle.cluster_levels.specs.Sizes.{AreSizes}
use Rattle.precedence.specs.StampedJournal.{StampedJournal, AreStampsOf}
use Rattle.event_book.specs.declared.setup.Setup.{Setup}
use Rattle.event_book.specs.Desks.{IsDesk}
use Rattle.event_book.specs.Setups as setups
use Rattle.event_book.specs.Stamping.{HasStamps, IsStamped, StampedState}
use Rattle.event_book.specs.Views.{IsViewOf, ViewState}

-- sizes are at least 1
pub some_each : (sizes : List ℕ) → AreSizes sizes → (i : ℕ) → i < length sizes → 1 ≤ slice_index sizes i
some_each sizes are i within = let rises = are.rising i within in omega (arith, rises)

module _ (types : TypeTable) (clustering : Clustering) (journal : List Entry) (legal : IsLegal types journal) (traces : clustering.traces ≡ types.traces) (few : types.traces ≤ MOST_TRACES) (sizes : AreSizes clustering.sizes) where
  abbrev pub as_stamped : StampedJournal
  as_stamped = record {
    types = types;
    clustering = clustering;
    journal = journal;
    legal = legal;
    traces = traces;
    few = few;
    some = some_each clustering.sizes sizes;
  }

  pub are_stamps : (lists : List (List ClusterTimestamp)) → HasStamps types clustering journal lists → AreStampsOf as_stamped lists
  are_stamps lists has = record { traces = has.traces; each = has.each; only = has.only }

-- those of a delivery
module _ (state : StampedState) (is : IsStamped state) where
  abbrev pub its_journal : StampedJournal
  its_journal = as_stamped state.types (clustering_of state.levels) state.journal is.legal is.traces is.table.most_traces is.sizes

  pub its_stamps : AreStampsOf its_journal state.stamps.lists
  its_stamps = are_stamps state.types (clustering_of state.levels) state.journal is.legal is.traces is.table.most_traces is.sizes state.stamps.lists is.has_stamps

-- those of a view
module _ (view : ViewState) (journal : List Entry) (is : IsViewOf view journal) where
  abbrev pub viewed_journal : StampedJournal
  viewed_journal = as_stamped view.setup.types (setups.clustering_of view.setup) journal is.is_journal.legal refl is.is_setup.table.most_traces is.is_setup.sizes

  pub viewed_stamps : AreStampsOf viewed_journal view.stamps
  viewed_stamps = are_stamps view.setup.types (setups.clustering_of view.setup) journal is.is_journal.legal refl is.is_setup.table.most_traces is.is_setup.sizes view.stamps is.has_stamps

-- those of a desk
module _ (setup : Setup) (state : StampedState) (ended : List Bool) (desk : IsDesk setup state ended) (is : IsStamped state) where
  pub legal_desk : IsLegal setup.types state.journal
  legal_desk = subst (λ (t : TypeTable). IsLegal t state.journal) desk.types_are is.legal

  pub has_desk : HasStamps setup.types (setups.clustering_of setup) state.journal state.stamps.lists
  has_desk =
      subst (λ (cl : Clustering). HasStamps setup.types cl state.journal state.stamps.lists) desk.clustering_is
      (subst (λ (t : TypeTable). HasStamps t (clustering_of state.levels) state.journal state.stamps.lists) desk.types_are is.has_stamps)

  abbrev pub desk_journal : StampedJournal
  desk_journal = as_stamped setup.types (setups.clustering_of setup) state.journal legal_desk refl desk.is_setup.table.most_traces desk.is_setup.sizes

  pub desk_stamps : AreStampsOf desk_journal state.stamps.lists
  desk_stamps = are_stamps setup.types (setups.clustering_of setup) state.journal legal_desk refl desk.is_setup.table.most_traces desk.is_setup.sizes state.stamps.lists has_desk
