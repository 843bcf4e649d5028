-- An event has one stamp, which stays as it is.
use Rattle.std.proofs.Common.{◌≡◌, ℕ, List, [], ◌∷◌, refl, sym, ◌∙◌, ap, subst}
use Rattle.std.specs.Prelude.{Contains, filter, reverse}
use Rattle.causal_base.specs.declared.event.Event.{Event}
use Rattle.causal_base.specs.Types.{TypeTable}
use Rattle.causal_base.specs.Walks.{Reaches}
use Rattle.causal_base.specs.Clocks.{IsClock}
use Rattle.causal_base.specs.Clusters.{Clustering, numbers_below, partition_after}
use Rattle.causal_base.specs.History.{EventBlock, all_events, IsCausal}
use Rattle.causal_base.specs.Stamps.{ClusterTimestamp, AreClocks, IsStamp, history_of, newest_level}
use Rattle.causal_base.proofs.CallerLemmas.{Contains-newest}
use Rattle.causal_laws.proofs.Clocks.{counts_is_one, clock_grows, clock_back}
use Rattle.causal_laws.proofs.OwnHistories.{delivered_at, own_delivery}

-- the numbers of a stamp are one list
clocks_once : (types : TypeTable) (events : List Event) (e : Event) (traces one other : List ℕ) → AreClocks types events e traces one → AreClocks types events e traces other → one ≡ other
clocks_once types events e [] [] [] h k = refl
clocks_once types events e [] [] (n ∷ other) h k = absurd k
clocks_once types events e [] (m ∷ one) other h k = absurd h
clocks_once types events e (trace ∷ traces) [] other h k = absurd h
clocks_once types events e (trace ∷ traces) (m ∷ one) [] h k = absurd k
clocks_once types events e (trace ∷ traces) (m ∷ one) (n ∷ other) h k =
    let first : m ≡ n = counts_is_one (λ x. (x.id.trace ≡ trace) × Reaches types events x e) events m n h.0 k.0 in
    ap (λ x. x ∷ one) first ∙ ap (λ xs. n ∷ xs) (clocks_once types events e traces one other h.1 k.1)

abbrev make_stamp : ℕ → List ℕ → List ℕ → ClusterTimestamp
make_stamp level members clock = record { level = level; members = members; clock = clock }

pub stamp_once : (types : TypeTable) (clustering : Clustering) (history : List EventBlock) (e : Event) (one other : ClusterTimestamp) → IsStamp types clustering history e one → IsStamp types clustering history e other → one ≡ other
stamp_once types clustering history e one other h k =
    let level : one.level ≡ other.level = h.level ∙ sym k.level in
    let members : one.members ≡ other.members = h.members ∙ sym k.members in
    let clocks = subst (λ traces. AreClocks types (all_events (history_of e.id history)) e traces one.clock) members h.clock in
    let clock = clocks_once types (all_events (history_of e.id history)) e other.members one.clock other.clock clocks k.clock in
    ap (λ l. make_stamp l one.members one.clock) level ∙ ap (λ m. make_stamp other.level m one.clock) members ∙ ap (λ c. make_stamp other.level other.members c) clock

-- a stamp is told by the event's own history
module _ (types : TypeTable) (clustering : Clustering) (history longer : List EventBlock) (e : Event) (same : history_of e.id history ≡ history_of e.id longer) (there : Contains (all_events longer) e) where
  pub stamp_moves : (stamp : ClusterTimestamp) → IsStamp types clustering history e stamp → IsStamp types clustering longer e stamp
  stamp_moves stamp h = record {
    delivered = there;
    level = h.level ∙ ap (λ own. newest_level clustering own) same;
    members = h.members ∙ ap (λ own. filter (λ trace. partition_after clustering own (newest_level clustering own) e.id.trace trace) (reverse (numbers_below clustering.traces))) same;
    clock = subst (λ own. AreClocks types (all_events own) e stamp.members stamp.clock) same h.clock;
  }

-- over its own history an event has the clock that it has over all
module _ (types : TypeTable) (history : List EventBlock) (causal : IsCausal types history) (e : Event) (there : Contains (all_events history) e) (trace n : ℕ) where
  pub own_clock_grows : IsClock types (all_events (history_of e.id history)) e trace n → IsClock types (all_events history) e trace n
  own_clock_grows clock =
      let at = delivered_at history e there in
      let inside = Contains-newest at.delivery at.past e (own_delivery types history causal e there at) in
      subst (λ ds. IsClock types (all_events ds) e trace n) (sym at.whole)
      (clock_grows types at.newer (at.delivery ∷ at.past) (subst (IsCausal types) at.whole causal) e inside trace n
      (subst (λ ds. IsClock types (all_events ds) e trace n) at.own clock))

  pub own_clock_back : IsClock types (all_events history) e trace n → IsClock types (all_events (history_of e.id history)) e trace n
  own_clock_back clock =
      let at = delivered_at history e there in
      let inside = Contains-newest at.delivery at.past e (own_delivery types history causal e there at) in
      subst (λ ds. IsClock types (all_events ds) e trace n) (sym at.own)
      (clock_back types at.newer (at.delivery ∷ at.past) (subst (IsCausal types) at.whole causal) e inside trace n
      (subst (λ ds. IsClock types (all_events ds) e trace n) at.whole clock))
