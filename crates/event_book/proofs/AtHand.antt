-- What a delivery needs, planned before it is done.
use Rattle.std.proofs.Common.{◌≡◌, ◌<◌, ℕ, zero, suc, arith, Bool, true, false, List, [], ◌∷◌, ◌++◌, length, reverse, get_or, refl, sym, ◌∙◌, ap, subst, Some}
use Rattle.std.specs.Prelude.{All, Contains, Option, None, slice_index, cond, ◌||◌}
use Rattle.std.specs.Option.{option_map}
use Rattle.causal_base.specs.declared.block.Block.{Block}
use Rattle.causal_base.specs.declared.entry.Entry.{Entry}
use Rattle.causal_base.specs.declared.event.Event.{Event}
use Rattle.causal_base.specs.declared.event_id.EventId.{EventId}
use Rattle.causal_base.specs.Types.{TypeTable}
use Rattle.causal_base.specs.Clocks.{HasClocks, IsClock}
use Rattle.causal_base.specs.Clusters.{Clustering, communications, partition, traces_joined}
use Rattle.causal_base.specs.History.{EventBlock, together, all_events, events_of, IsCausal}
use Rattle.causal_base.specs.Journal.{IsLegal, came_by, deliveries_by}
use Rattle.causal_base.specs.Past.{event_of, is_same_id, IsNext}
use Rattle.causal_base.specs.Stamps.{AreClocks, IsStamp, delivers, history_of, joined_level, newest_level}
use Rattle.causal_base.proofs.CallerLemmas.{Contains-here, Contains-newest, Contains-there, event_of-member, is_same_id-same, numbered, same_came, same_event}
use Rattle.cluster_levels.specs.Levels.{clustering_of}
use Rattle.cluster_members.specs.Kept.{AreKept, KeptLists, cluster_of}
use Rattle.cluster_members.proofs.CallerLemmas.{kept_grows, members_are, traces_that-has}
use Rattle.cluster_merge.specs.declared.merge.Merge.{Merge}
use Rattle.projected_stamp.specs.Parts.{numbers_for, projected}
use Rattle.delivery.specs.Leading.{entry_of}
use Rattle.vector_flight.specs.Flights.{InFlight, IsFlightOf}
use Rattle.event_book.specs.Stamping.{IsStamped, StampedState, traces_of, with_merge}
use Rattle.event_book.proofs.Blocks.{deliveries_after}
use Rattle.event_book.proofs.Going.{communications_with}

-- the event that is found by an id is the one that came with it
pub found_is : (types : TypeTable) (journal : List Entry) → IsLegal types journal → (id : EventId) (e known : Event) → event_of (came_by journal) id ≡ Some e → Contains (came_by journal) known → known.id ≡ id → known ≡ e
found_is types journal legal id e known found came_in same =
    let member = event_of-member (came_by journal) id e found in
    same_came types (reverse journal) legal known e came_in member.0 (same ∙ sym member.1)

-- an item is the same whatever is said past the end
in_range : (xs : List ℕ) (at d other : ℕ) → at < length xs → get_or xs at other ≡ get_or xs at d
in_range [] at d other inside = absurd (omega (arith, inside))
in_range (x ∷ xs) zero d other inside = refl
in_range (x ∷ xs) (suc at) d other inside = in_range xs at d other (omega (arith, inside))

-- a list of a cluster has traces alone
pub cluster_within : (clustering : Clustering) (so_far : List (ℕ × ℕ)) (level trace : ℕ) → All (λ t. t < clustering.traces) (cluster_of clustering so_far level trace)
cluster_within clustering so_far level trace at d inside =
    (traces_that-has (λ other. partition clustering so_far level trace other) clustering.traces (get_or (cluster_of clustering so_far level trace) at d)
    (at, inside, in_range (cluster_of clustering so_far level trace) at d (get_or (cluster_of clustering so_far level trace) at d) inside)).0

-- what is kept stays so with a merge's communication, if there is one
pub kept_with : (clustering : Clustering) (so_far : List (ℕ × ℕ)) (merge : Option Merge) (kept : KeptLists) → AreKept clustering so_far kept → AreKept clustering (with_merge merge so_far) kept
kept_with clustering so_far None kept are = are
kept_with clustering so_far (Some merge) kept are = kept_grows clustering so_far (traces_of merge) kept are

-- the level of a delivery that merges
pub level_with : (clustering : Clustering) (d : EventBlock) (ds : List EventBlock) (merge : Option Merge) → traces_joined d ≡ option_map traces_of merge
    → joined_level clustering (partition clustering (with_merge merge (communications ds))) (option_map traces_of merge) ≡ newest_level clustering (d ∷ ds)
level_with clustering d ds merge joins =
    ap (λ (cs : List (ℕ × ℕ)). joined_level clustering (partition clustering cs) (option_map traces_of merge)) (communications_with d ds merge joins)
    ∙ ap (λ (t : Option (ℕ × ℕ)). joined_level clustering (partition clustering (communications (d ∷ ds))) t) (sym joins)

-- the numbers of a clock for some traces are the event's
clocks_for : (types : TypeTable) (events : List Event) (e : Event) (clock : List ℕ) → ((x y : Event) → Contains events x → Contains events y → x.id ≡ y.id → x ≡ y) → Contains events e → HasClocks types events e.id clock
    → (traces : List ℕ) → ((t : ℕ) → Contains traces t → t < types.traces) → AreClocks types events e traces (numbers_for clock traces)
clocks_for types events e clock own there has [] within = tt
clocks_for types events e clock own there has (t ∷ traces) within =
    let at = has t (within t (Contains-here t traces)) in (
      subst (λ (x : Event). IsClock types events x t (slice_index clock t)) (own at.e e at.among there at.id_is) at.clock,
      clocks_for types events e clock own there has traces (λ x inside. within x (Contains-there t traces x inside)),
    )

-- The stamp of an event that is delivered next.
pub new_stamp : (types : TypeTable) (clustering : Clustering) (d : EventBlock) (ds : List EventBlock) (e : Event) (level : ℕ) (members clock : List ℕ) → clustering.traces ≡ types.traces → IsCausal types (d ∷ ds)
    → Contains (events_of d) e → delivers e.id d ≡ true → level ≡ newest_level clustering (d ∷ ds) → members ≡ cluster_of clustering (communications (d ∷ ds)) level e.id.trace
    → HasClocks types (all_events (d ∷ ds)) e.id clock → IsStamp types clustering (d ∷ ds) e (projected level members clock)
new_stamp types clustering d ds e level members clock traces causal its delivers_it level_is members_is has =
    let there = Contains-newest d ds e its in
    let own = same_event (all_events (d ∷ ds)) (numbered types (d ∷ ds) causal) in
    let within : (t : ℕ) → Contains members t → t < types.traces =
    λ t inside. subst (λ (n : ℕ). t < n) traces
    (traces_that-has (λ other. partition clustering (communications (d ∷ ds)) level e.id.trace other) clustering.traces t (subst (λ (l : List ℕ). Contains l t) members_is inside)).0 in
    record {
      delivered = there;
      level = level_is ∙ ap (λ (b : Bool). newest_level clustering (cond b (d ∷ ds) (history_of e.id ds))) (sym delivers_it);
      members = members_is ∙ (ap (λ (n : ℕ). cluster_of clustering (communications (d ∷ ds)) n e.id.trace) level_is ∙ sym (members_are clustering d ds e.id delivers_it));
      clock = subst (λ (b : Bool). AreClocks types (all_events (cond b (d ∷ ds) (history_of e.id ds))) e members (numbers_for clock members)) (sym delivers_it)
          (clocks_for types (all_events (d ∷ ds)) e clock own there has members within);
    }

or_true : (b : Bool) → (b || true) ≡ true
or_true true = refl
or_true false = refl

pub delivers_first : (a b : Event) → delivers a.id (together a b) ≡ true
delivers_first a b = ap (λ (x : Bool). x || is_same_id a.id b.id) (is_same_id-same a.id)

pub delivers_second : (a b : Event) → delivers b.id (together a b) ≡ true
delivers_second a b = ap (λ (x : Bool). is_same_id b.id a.id || x) (is_same_id-same b.id) ∙ or_true (is_same_id b.id a.id)

-- The same told of a delivery and its clusters.
module _ (s : StampedState) (is : IsStamped s) (d : EventBlock) (merge : Option Merge) (joins : traces_joined d ≡ option_map traces_of merge) where
  pub planned_stamp : IsCausal s.types (d ∷ deliveries_by s.journal) → (e : Event) → Contains (events_of d) e → delivers e.id d ≡ true → (level : ℕ) (members clock : List ℕ)
      → level ≡ joined_level (clustering_of s.levels) (partition (clustering_of s.levels) (with_merge merge (communications (deliveries_by s.journal)))) (option_map traces_of merge)
      → members ≡ cluster_of (clustering_of s.levels) (with_merge merge (communications (deliveries_by s.journal))) level e.id.trace
      → HasClocks s.types (all_events (d ∷ deliveries_by s.journal)) e.id clock
      → IsStamp s.types (clustering_of s.levels) (d ∷ deliveries_by s.journal) e (projected level members clock)
  planned_stamp causal e its delivers_it level members clock level_is members_is has =
      new_stamp s.types (clustering_of s.levels) d (deliveries_by s.journal) e level members clock is.traces causal its delivers_it
      (level_is ∙ level_with (clustering_of s.levels) d (deliveries_by s.journal) merge joins)
      (members_is ∙ ap (λ (cs : List (ℕ × ℕ)). cluster_of (clustering_of s.levels) cs level e.id.trace) (communications_with d (deliveries_by s.journal) merge joins)) has

  -- once it is done
  module _ (block : Block) (next : IsNext s.types (reverse s.journal) block) (is_d : next.enabled.delivery ≡ d) (later : StampedState) (journal_is : later.journal ≡ s.journal ++ entry_of block ∷ []) (clustering_is : clustering_of later.levels ≡ clustering_of s.levels) where
    pub deliveries_are : deliveries_by later.journal ≡ d ∷ deliveries_by s.journal
    deliveries_are = ap deliveries_by journal_is ∙ (deliveries_after s.types s.journal block next ∙ ap (λ (x : EventBlock). x ∷ deliveries_by s.journal) is_d)

    so_far_is : communications (deliveries_by later.journal) ≡ with_merge merge (communications (deliveries_by s.journal))
    so_far_is = ap communications deliveries_are ∙ sym (communications_with d (deliveries_by s.journal) merge joins)

    pub kept_later : (kept : KeptLists) → AreKept (clustering_of s.levels) (communications (deliveries_by s.journal)) kept → AreKept (clustering_of later.levels) (communications (deliveries_by later.journal)) kept
    kept_later kept are =
        subst (λ (cs : List (ℕ × ℕ)). AreKept (clustering_of later.levels) cs kept) (sym so_far_is)
        (subst (λ (cl : Clustering). AreKept cl (with_merge merge (communications (deliveries_by s.journal))) kept) (sym clustering_is)
        (kept_with (clustering_of s.levels) (communications (deliveries_by s.journal)) merge kept are))

    pub members_later : (members : List ℕ) (level trace : ℕ) → members ≡ cluster_of (clustering_of s.levels) (with_merge merge (communications (deliveries_by s.journal))) level trace
        → members ≡ cluster_of (clustering_of later.levels) (communications (deliveries_by later.journal)) level trace
    members_later members level trace are =
        are ∙ (ap (λ (cl : Clustering). cluster_of cl (with_merge merge (communications (deliveries_by s.journal))) level trace) (sym clustering_is)
        ∙ ap (λ (cs : List (ℕ × ℕ)). cluster_of (clustering_of later.levels) cs level trace) (sym so_far_is))

    pub flight_later : (flight : InFlight) → later.types ≡ s.types → IsFlightOf s.types (d ∷ deliveries_by s.journal) flight → IsFlightOf later.types (deliveries_by later.journal) flight
    flight_later flight types_are stands =
        subst (λ (ds : List EventBlock). IsFlightOf later.types ds flight) (sym deliveries_are) (subst (λ (t : TypeTable). IsFlightOf t (d ∷ deliveries_by s.journal) flight) (sym types_are) stands)
