-- What belongs to a journal, as the journal goes on.
use Rattle.std.proofs.Common.{◌≡◌, ◌≢◌, ◌<◌, ◌≤◌, ◌+◌, ℕ, List, [], ◌∷◌, ◌++◌, length, reverse, sym, ◌∙◌, ap, subst, arith, Some}
use Rattle.std.specs.Prelude.{Contains, ◌==◌, ◌↔◌, count_by, cond, Option, None}
use Rattle.std.specs.List.{cons_option}
use Rattle.std.specs.Option.{option_map}
use Rattle.causal_base.specs.declared.block.Block.{Block}
use Rattle.std.proofs.lemmas.List.Sums.{sum_by-cons, count_by-le-length}
use Rattle.causal_base.specs.declared.block.Block.TheVariants.{One, Two}
use Rattle.causal_base.specs.declared.entry.Entry.{Entry}
use Rattle.causal_base.specs.declared.entry.Entry.TheVariants.{Came, Gone, Pair, Ended}
use Rattle.causal_base.specs.declared.event.Event.{Event}
use Rattle.causal_base.specs.declared.event_id.EventId.{EventId}
use Rattle.causal_base.specs.declared.limits.TheConstants.{MOST_EVENTS, MOST_NUMBER}
use Rattle.causal_base.specs.Types.{TypeTable}
use Rattle.causal_base.specs.Event.{IsFit}
use Rattle.causal_base.specs.Clusters.{Clustering, communications, levels_of, traces_joined}
use Rattle.causal_base.specs.History.{EventBlock, alone, together, all_events, count_on, IsCausal, MayFollow}
use Rattle.causal_base.specs.Journal.{IsLegal, came_by, delivered_by, deliveries_by}
use Rattle.causal_base.specs.Past.{came, deliveries, HasEnded, HasEvent, HasNoNext, IsLegalPast, IsNext}
use Rattle.causal_base.specs.Stamps.{ClusterTimestamp, IsStamp, level_of, members_of}
use Rattle.causal_base.proofs.CallerLemmas.{causal, count_by-cons, count_on-other, delivered_came, event_of-member, came_fit, reverse-push, same_came, history_of_past, length-delivered}
use Rattle.cluster_levels.specs.Levels.{ClusterLevels, StandsAfter, clustering_of}
use Rattle.cluster_levels.specs.Sizes.{AreSizes}
use Rattle.delivery.specs.Leading.{entry_of}
use Rattle.cluster_merge.specs.declared.merge.Merge.{Merge}
use Rattle.projected_stamp.specs.StampLists.{StampLists, parts_of}
use Rattle.projected_stamp.proofs.CallerLemmas.{parts-with_item}
use Rattle.shared_list.specs.Traces.{list_of, with_item}
use Rattle.shared_list.proofs.CallerLemmas.{list_of-with_item_other}
use Rattle.event_book.specs.Stamping.{AreStampsAmong, IsStamped, StampedState, full_among, parts_among, traces_of, with_merge}
use Rattle.event_book.proofs.Blocks.{legal_after, came_after, deliveries_after, one_found, two_found}
use Rattle.event_book.proofs.StampLists.{stamp_added, stamps_stay, parts_stay, full_stay}

-- an event that came, of whose id one is delivered, is delivered
pub delivered_is_it : (types : TypeTable) (journal : List Entry) → IsLegal types journal → (e : Event) → Contains (came_by journal) e → HasEvent (delivered_by journal) e.id → Contains (delivered_by journal) e
delivered_is_it types journal legal e came_e (x, inside, same) =
    subst (λ (y : Event). Contains (delivered_by journal) y)
    (same_came types (reverse journal) legal x e (delivered_came types (reverse journal) legal x inside) came_e same) inside

-- what none that came has, none that is delivered has
pub none_delivered : (types : TypeTable) (journal : List Entry) → IsLegal types journal → (id : EventId) → (HasEvent (came_by journal) id → ⊥) → HasEvent (delivered_by journal) id → ⊥
none_delivered types journal legal id none (x, inside, same) = none (x, delivered_came types (reverse journal) legal x inside, same)

-- The journal goes on without a delivery.
stamped_on : (s : StampedState) → IsStamped s → (journal : List Entry) → deliveries_by journal ≡ deliveries_by s.journal → IsLegal s.types journal → length (came_by journal) ≤ MOST_EVENTS
    → IsStamped (record s { journal = journal })
stamped_on s is journal same legal few = record {
  table = is.table;
  legal = legal;
  few = few;
  traces = is.traces;
  sizes = is.sizes;
  stands = subst (λ (ds : List EventBlock). StandsAfter s.levels (communications ds)) (sym same) is.stands;
  has_stamps = subst (λ (ds : List EventBlock). AreStampsAmong s.types (clustering_of s.levels) ds (all_events ds) s.stamps.lists) (sym same) is.has_stamps;
  parts_are = subst (λ (ds : List EventBlock). parts_of s.stamps.lists ≡ parts_among (clustering_of s.levels) ds (all_events ds)) (sym same) is.parts_are;
  full_is = subst (λ (ds : List EventBlock). s.full ≡ full_among (clustering_of s.levels) ds (all_events ds)) (sym same) is.full_is;
}

-- an event comes
pub stamped_came : (s : StampedState) → IsStamped s → (collector : ℕ) (e : Event) → IsFit s.types e → HasNoNext s.types (reverse s.journal) → (HasEnded (reverse s.journal) collector → ⊥) → (HasEvent (came_by s.journal) e.id → ⊥) → length (came_by s.journal) < MOST_EVENTS
    → IsStamped (record s { journal = s.journal ++ Came collector e ∷ [] })
stamped_came s is collector e fit settled open_yet new room =
    let push = reverse-push s.journal (Came collector e) in
    let many : length (came_by (s.journal ++ Came collector e ∷ [])) ≡ length (came_by s.journal) + 1 = ap (λ (past : List Entry). length (came past)) push ∙ omega arith in
    stamped_on s is (s.journal ++ Came collector e ∷ []) (ap deliveries push)
    (subst (IsLegalPast s.types) (sym push) (record { settled = settled; fit = fit; new = new; open_yet = open_yet }, is.legal))
    (omega (arith, many, room))

-- a collector ends
pub stamped_ended : (s : StampedState) → IsStamped s → (collector : ℕ) → (HasEnded (reverse s.journal) collector → ⊥) → IsStamped (record s { journal = s.journal ++ Ended collector ∷ [] })
stamped_ended s is collector open_yet =
    let push = reverse-push s.journal (Ended collector) in
    stamped_on s is (s.journal ++ Ended collector ∷ []) (ap deliveries push) (subst (IsLegalPast s.types) (sym push) (open_yet, is.legal))
    (subst (λ (past : List Entry). length (came past) ≤ MOST_EVENTS) (sym push) is.few)

-- how many there are of the level above those with a size, with one more event
one_more_full : (clustering : Clustering) (history : List EventBlock) (events : List Event) (e : Event) (stamp : ClusterTimestamp) → stamp.level ≡ level_of clustering history e.id
    → full_among clustering history (e ∷ events) ≡ full_among clustering history events + count_by (λ (s : ClusterTimestamp). s.level == levels_of clustering + 1) (stamp ∷ [])
one_more_full clustering history events e stamp level =
    let one = count_by-cons (λ (x : Event). level_of clustering history x.id == levels_of clustering + 1) e events in
    let other = count_by-cons (λ (s : ClusterTimestamp). s.level == levels_of clustering + 1) stamp [] in
    let same : ◌≡◌ {A = ℕ} (cond (stamp.level == levels_of clustering + 1) 1 0) (cond (level_of clustering history e.id == levels_of clustering + 1) 1 0) = ap (λ (n : ℕ). cond (n == levels_of clustering + 1) 1 0) level in
    omega (arith, one, other, same)

-- and how many parts
one_more_parts : (clustering : Clustering) (history : List EventBlock) (events : List Event) (e : Event) (stamp : ClusterTimestamp) → stamp.members ≡ members_of clustering history e.id
    → parts_among clustering history (e ∷ events) ≡ parts_among clustering history events + length stamp.members
one_more_parts clustering history events e stamp members =
    let one = sum_by-cons (λ (x : Event). length (members_of clustering history x.id)) e events in
    let same = ap (λ (l : List ℕ). length l) members in
    omega (arith, one, same)

-- what the law of stamps that stay says
abbrev pub Stays : Type 0
Stays = (types : TypeTable) (clustering : Clustering) (journal more : List Entry) → IsLegal types (journal ++ more) → (e : Event) → Contains (delivered_by journal) e → (stamp : ClusterTimestamp)
    → (IsStamp types clustering (deliveries_by journal) e stamp) ↔ (IsStamp types clustering (deliveries_by (journal ++ more)) e stamp)

module _ (s : StampedState) (is : IsStamped s) where
  -- few stamps have all traces
  pub full_few : s.full ≤ MOST_EVENTS
  full_few =
      let counted = count_by-le-length (λ (e : Event). level_of (clustering_of s.levels) (deliveries_by s.journal) e.id == levels_of (clustering_of s.levels) + 1) (delivered_by s.journal) in
      let gone = length-delivered s.types (came_by s.journal) (deliveries_by s.journal) (history_of_past s.types (reverse s.journal) is.legal) in
      let few = is.few in
      let same = is.full_is in
      omega (arith, counted, gone, few, same)

  module _ (stays : Stays) (block : Block) (next : IsNext s.types (reverse s.journal) block) where
    abbrev later : List EventBlock
    later = next.enabled.delivery ∷ deliveries_by s.journal

    moves : (e : Event) → Contains (delivered_by s.journal) e → (stamp : ClusterTimestamp) → IsStamp s.types (clustering_of s.levels) (deliveries_by s.journal) e stamp → IsStamp s.types (clustering_of s.levels) later e stamp
    moves e inside stamp its =
        subst (λ (ds : List EventBlock). IsStamp s.types (clustering_of s.levels) ds e stamp) (deliveries_after s.types s.journal block next)
        ((stays s.types (clustering_of s.levels) s.journal (entry_of block ∷ []) (legal_after s.types s.journal block is.legal next) e inside stamp).0 its)

    -- the stamps that are there, by the deliveries with this one
    old_stamps : AreStampsAmong s.types (clustering_of s.levels) later (delivered_by s.journal) s.stamps.lists
    old_stamps = stamps_stay s.types (clustering_of s.levels) (deliveries_by s.journal) later (delivered_by s.journal) s.stamps.lists is.has_stamps moves

    old_parts : parts_of s.stamps.lists ≡ parts_among (clustering_of s.levels) later (delivered_by s.journal)
    old_parts = is.parts_are ∙ sym (parts_stay s.types (clustering_of s.levels) (deliveries_by s.journal) later (delivered_by s.journal) s.stamps.lists is.has_stamps moves)

    old_full : s.full ≡ full_among (clustering_of s.levels) later (delivered_by s.journal)
    old_full = is.full_is ∙ sym (full_stay s.types (clustering_of s.levels) (deliveries_by s.journal) later (delivered_by s.journal) s.stamps.lists is.has_stamps moves)

    -- the block was delivered
    stamped_next : (levels : ClusterLevels) (stamps : StampLists) (full : ℕ) → clustering_of levels ≡ clustering_of s.levels → StandsAfter levels (communications later)
        → AreStampsAmong s.types (clustering_of s.levels) later (all_events later) stamps.lists
        → parts_of stamps.lists ≡ parts_among (clustering_of s.levels) later (all_events later)
        → full ≡ full_among (clustering_of s.levels) later (all_events later)
        → IsStamped (record { types = s.types; journal = s.journal ++ entry_of block ∷ []; levels = levels; stamps = stamps; full = full })
    stamped_next levels stamps full same stands has parts full_is =
        let after = deliveries_after s.types s.journal block next in
        record {
          table = is.table;
          legal = legal_after s.types s.journal block is.legal next;
          few = subst (λ (es : List Event). length es ≤ MOST_EVENTS) (sym (came_after s.journal block)) is.few;
          traces = ap (λ (c : Clustering). c.traces) same ∙ is.traces;
          sizes = subst AreSizes (sym (ap (λ (c : Clustering). c.sizes) same)) is.sizes;
          stands = subst (λ (ds : List EventBlock). StandsAfter levels (communications ds)) (sym after) stands;
          has_stamps = subst (λ (ds : List EventBlock). AreStampsAmong s.types (clustering_of levels) ds (all_events ds) stamps.lists) (sym after)
              (subst (λ (c : Clustering). AreStampsAmong s.types c later (all_events later) stamps.lists) (sym same) has);
          parts_are = subst (λ (ds : List EventBlock). parts_of stamps.lists ≡ parts_among (clustering_of levels) ds (all_events ds)) (sym after)
              (subst (λ (c : Clustering). parts_of stamps.lists ≡ parts_among c later (all_events later)) (sym same) parts);
          full_is = subst (λ (ds : List EventBlock). full ≡ full_among (clustering_of levels) ds (all_events ds)) (sym after)
              (subst (λ (c : Clustering). full ≡ full_among c later (all_events later)) (sym same) full_is);
        }

  -- An event goes.
  module _ (id : EventId) (next : IsNext s.types (reverse s.journal) (One id)) where
    abbrev pub the_one : Event
    the_one = (one_found s.types s.journal id next).0

    member_one : Contains (came_by s.journal) the_one × (the_one.id ≡ id)
    member_one = event_of-member (came_by s.journal) id the_one (one_found s.types s.journal id next).1

    pub fit_one : IsFit s.types the_one
    fit_one = came_fit s.types (reverse s.journal) is.legal the_one member_one.0

    pub id_one : the_one.id ≡ id
    id_one = member_one.1

    follows_one : MayFollow s.types (deliveries_by s.journal) (alone the_one)
    follows_one = subst (MayFollow s.types (deliveries_by s.journal)) (one_found s.types s.journal id next).2 next.enabled.may_follow

    pub causal_one : IsCausal s.types (alone the_one ∷ deliveries_by s.journal)
    causal_one = (follows_one, causal s.types (reverse s.journal) is.legal)

    pub on_one : id.trace < s.types.traces
    on_one = subst (λ (i : EventId). i.trace < s.types.traces) id_one fit_one.id.trace

    pub most_one : id.number ≤ MOST_NUMBER
    most_one = subst (λ (i : EventId). i.number ≤ MOST_NUMBER) id_one fit_one.id.most

    pub number_one : id.number ≡ length (list_of s.stamps.lists id.trace) + 1
    number_one =
        subst (λ (i : EventId). i.number ≡ length (list_of s.stamps.lists i.trace) + 1) id_one
        (let next_is = follows_one.0 in let counted = is.has_stamps.counts the_one.id.trace in omega (arith, next_is, counted))

    pub stamped_one : Stays → (levels : ClusterLevels) (stamps : StampLists) (full : ℕ) (stamp : ClusterTimestamp)
        → clustering_of levels ≡ clustering_of s.levels → StandsAfter levels (communications (alone the_one ∷ deliveries_by s.journal))
        → IsStamp s.types (clustering_of s.levels) (alone the_one ∷ deliveries_by s.journal) the_one stamp
        → stamps.lists ≡ with_item s.stamps.lists id.trace stamp
        → full ≡ s.full + count_by (λ (x : ClusterTimestamp). x.level == levels_of (clustering_of s.levels) + 1) (stamp ∷ [])
        → IsStamped (record { types = s.types; journal = s.journal ++ Gone id ∷ []; levels = levels; stamps = stamps; full = full })
    stamped_one stays levels stamps full stamp same stands its lists_are full_is =
        let cl = clustering_of s.levels in
        let d = next.enabled.delivery in
        let ds = deliveries_by s.journal in
        let e = the_one in
        let is_alone = (one_found s.types s.journal id next).2 in
        let placed : stamps.lists ≡ with_item s.stamps.lists e.id.trace stamp = lists_are ∙ ap (λ (i : EventId). with_item s.stamps.lists i.trace stamp) (sym id_one) in
        let old = subst (λ (x : EventBlock). AreStampsAmong s.types cl (x ∷ ds) (all_events ds) s.stamps.lists) is_alone (old_stamps stays (One id) next) in
        let has = stamp_added s.types cl (alone e ∷ ds) (all_events ds) s.stamps.lists old e stamp its fit_one.id.trace follows_one.0 in
        let parts : parts_of (with_item s.stamps.lists e.id.trace stamp) ≡ parts_among cl (alone e ∷ ds) (e ∷ all_events ds) =
        (let before = subst (λ (x : EventBlock). parts_of s.stamps.lists ≡ parts_among cl (x ∷ ds) (all_events ds)) is_alone (old_parts stays (One id) next) in
        let traces = is.has_stamps.traces in
        let on = fit_one.id.trace in
        let more = parts-with_item s.stamps.lists e.id.trace stamp (omega (arith, traces, on)) in
        let one = one_more_parts cl (alone e ∷ ds) (all_events ds) e stamp its.members in
        omega (arith, before, more, one)) in
        let counted : full ≡ full_among cl (alone e ∷ ds) (e ∷ all_events ds) =
        (let before = subst (λ (x : EventBlock). s.full ≡ full_among cl (x ∷ ds) (all_events ds)) is_alone (old_full stays (One id) next) in
        let one = one_more_full cl (alone e ∷ ds) (all_events ds) e stamp its.level in
        omega (arith, before, one, full_is)) in
        stamped_next stays (One id) next levels stamps full same
        (subst (λ (x : EventBlock). StandsAfter levels (communications (x ∷ ds))) (sym is_alone) stands)
        (subst (λ (x : EventBlock). AreStampsAmong s.types cl (x ∷ ds) (all_events (x ∷ ds)) stamps.lists) (sym is_alone)
        (subst (λ (l : List (List ClusterTimestamp)). AreStampsAmong s.types cl (alone e ∷ ds) (e ∷ all_events ds) l) (sym placed) has))
        (subst (λ (x : EventBlock). parts_of stamps.lists ≡ parts_among cl (x ∷ ds) (all_events (x ∷ ds))) (sym is_alone)
        (ap parts_of placed ∙ parts))
        (subst (λ (x : EventBlock). full ≡ full_among cl (x ∷ ds) (all_events (x ∷ ds))) (sym is_alone) counted)

  -- Two partners go.
  module _ (first second : EventId) (next : IsNext s.types (reverse s.journal) (Two first second)) where
    abbrev pub the_first : Event
    the_first = (two_found s.types s.journal first second next).0

    abbrev pub the_second : Event
    the_second = (two_found s.types s.journal first second next).1

    member_first : Contains (came_by s.journal) the_first × (the_first.id ≡ first)
    member_first = event_of-member (came_by s.journal) first the_first (two_found s.types s.journal first second next).2

    member_second : Contains (came_by s.journal) the_second × (the_second.id ≡ second)
    member_second = event_of-member (came_by s.journal) second the_second (two_found s.types s.journal first second next).3

    pub id_first : the_first.id ≡ first
    id_first = member_first.1

    pub id_second : the_second.id ≡ second
    id_second = member_second.1

    pub fit_first : IsFit s.types the_first
    fit_first = came_fit s.types (reverse s.journal) is.legal the_first member_first.0

    pub fit_second : IsFit s.types the_second
    fit_second = came_fit s.types (reverse s.journal) is.legal the_second member_second.0

    follows_two : MayFollow s.types (deliveries_by s.journal) (together the_first the_second)
    follows_two = subst (MayFollow s.types (deliveries_by s.journal)) (two_found s.types s.journal first second next).4 next.enabled.may_follow

    pub causal_two : IsCausal s.types (together the_first the_second ∷ deliveries_by s.journal)
    causal_two = (follows_two, causal s.types (reverse s.journal) is.legal)

    apart : the_second.id.trace ≢ the_first.id.trace
    apart same = let lower = follows_two.3 in omega (arith, same, lower)

    pub apart_two : second.trace ≢ first.trace
    apart_two = subst (λ (i : EventId). i.trace ≢ first.trace) id_second (subst (λ (i : EventId). the_second.id.trace ≢ i.trace) id_first apart)

    pub on_first : first.trace < s.types.traces
    on_first = subst (λ (i : EventId). i.trace < s.types.traces) id_first fit_first.id.trace

    pub on_second : second.trace < s.types.traces
    on_second = subst (λ (i : EventId). i.trace < s.types.traces) id_second fit_second.id.trace

    pub most_first : first.number ≤ MOST_NUMBER
    most_first = subst (λ (i : EventId). i.number ≤ MOST_NUMBER) id_first fit_first.id.most

    pub most_second : second.number ≤ MOST_NUMBER
    most_second = subst (λ (i : EventId). i.number ≤ MOST_NUMBER) id_second fit_second.id.most

    pub number_first : first.number ≡ length (list_of s.stamps.lists first.trace) + 1
    number_first =
        subst (λ (i : EventId). i.number ≡ length (list_of s.stamps.lists i.trace) + 1) id_first
        (let next_is = follows_two.0 in let counted = is.has_stamps.counts the_first.id.trace in omega (arith, next_is, counted))

    pub number_second : (stamp : ClusterTimestamp) → second.number ≡ length (list_of (with_item s.stamps.lists first.trace stamp) second.trace) + 1
    number_second stamp =
        let before : second.number ≡ length (list_of s.stamps.lists second.trace) + 1 =
        subst (λ (i : EventId). i.number ≡ length (list_of s.stamps.lists i.trace) + 1) id_second
        (let next_is = follows_two.1 in let counted = is.has_stamps.counts the_second.id.trace in omega (arith, next_is, counted)) in
        before ∙ ap (λ (l : List ClusterTimestamp). length l + 1) (sym (list_of-with_item_other s.stamps.lists first.trace second.trace stamp apart_two))

    pub stamped_two : Stays → (levels : ClusterLevels) (stamps : StampLists) (full : ℕ) (one other : ClusterTimestamp)
        → clustering_of levels ≡ clustering_of s.levels → StandsAfter levels (communications (together the_first the_second ∷ deliveries_by s.journal))
        → IsStamp s.types (clustering_of s.levels) (together the_first the_second ∷ deliveries_by s.journal) the_first one
        → IsStamp s.types (clustering_of s.levels) (together the_first the_second ∷ deliveries_by s.journal) the_second other
        → stamps.lists ≡ with_item (with_item s.stamps.lists first.trace one) second.trace other
        → full ≡ s.full + (count_by (λ (x : ClusterTimestamp). x.level == levels_of (clustering_of s.levels) + 1) (one ∷ []) + count_by (λ (x : ClusterTimestamp). x.level == levels_of (clustering_of s.levels) + 1) (other ∷ []))
        → IsStamped (record { types = s.types; journal = s.journal ++ Pair first second ∷ []; levels = levels; stamps = stamps; full = full })
    stamped_two stays levels stamps full one other same stands its its_other lists_are full_is =
        let cl = clustering_of s.levels in
        let ds = deliveries_by s.journal in
        let a = the_first in
        let b = the_second in
        let now = together a b ∷ ds in
        let is_both = (two_found s.types s.journal first second next).4 in
        let between = with_item s.stamps.lists a.id.trace one in
        let placed : stamps.lists ≡ with_item between b.id.trace other =
        lists_are
        ∙ (ap (λ (i : EventId). with_item (with_item s.stamps.lists i.trace one) second.trace other) (sym id_first)
        ∙ ap (λ (i : EventId). with_item between i.trace other) (sym id_second)) in
        let old = subst (λ (x : EventBlock). AreStampsAmong s.types cl (x ∷ ds) (all_events ds) s.stamps.lists) is_both (old_stamps stays (Two first second) next) in
        let half = stamp_added s.types cl now (all_events ds) s.stamps.lists old a one its fit_first.id.trace follows_two.0 in
        let number : b.id.number ≡ count_on b.id.trace (a ∷ all_events ds) + 1 =
        (let next_is = follows_two.1 in let other_trace = count_on-other b.id.trace a (all_events ds) (λ (same : a.id.trace ≡ b.id.trace). apart (sym same)) in omega (arith, next_is, other_trace)) in
        let has = stamp_added s.types cl now (a ∷ all_events ds) between half b other its_other fit_second.id.trace number in
        let parts : parts_of (with_item between b.id.trace other) ≡ parts_among cl now (b ∷ a ∷ all_events ds) =
        (let before = subst (λ (x : EventBlock). parts_of s.stamps.lists ≡ parts_among cl (x ∷ ds) (all_events ds)) is_both (old_parts stays (Two first second) next) in
        let traces = is.has_stamps.traces in
        let on_a = fit_first.id.trace in
        let on_b = fit_second.id.trace in
        let more = parts-with_item s.stamps.lists a.id.trace one (omega (arith, traces, on_a)) in
        let many = half.traces in
        let again = parts-with_item between b.id.trace other (omega (arith, many, on_b)) in
        let first_more = one_more_parts cl now (all_events ds) a one its.members in
        let second_more = one_more_parts cl now (a ∷ all_events ds) b other its_other.members in
        omega (arith, before, more, again, first_more, second_more)) in
        let counted : full ≡ full_among cl now (b ∷ a ∷ all_events ds) =
        (let before = subst (λ (x : EventBlock). s.full ≡ full_among cl (x ∷ ds) (all_events ds)) is_both (old_full stays (Two first second) next) in
        let first_more = one_more_full cl now (all_events ds) a one its.level in
        let second_more = one_more_full cl now (a ∷ all_events ds) b other its_other.level in
        omega (arith, before, first_more, second_more, full_is)) in
        stamped_next stays (Two first second) next levels stamps full same
        (subst (λ (x : EventBlock). StandsAfter levels (communications (x ∷ ds))) (sym is_both) stands)
        (subst (λ (x : EventBlock). AreStampsAmong s.types cl (x ∷ ds) (all_events (x ∷ ds)) stamps.lists) (sym is_both)
        (subst (λ (l : List (List ClusterTimestamp)). AreStampsAmong s.types cl now (b ∷ a ∷ all_events ds) l) (sym placed) has))
        (subst (λ (x : EventBlock). parts_of stamps.lists ≡ parts_among cl (x ∷ ds) (all_events (x ∷ ds))) (sym is_both)
        (ap parts_of placed ∙ parts))
        (subst (λ (x : EventBlock). full ≡ full_among cl (x ∷ ds) (all_events (x ∷ ds))) (sym is_both) counted)

-- the communications with that of a delivery
pub communications_with : (d : EventBlock) (ds : List EventBlock) (merge : Option Merge) → traces_joined d ≡ option_map traces_of merge → with_merge merge (communications ds) ≡ communications (d ∷ ds)
communications_with d ds None joins = ap (λ (o : Option (ℕ × ℕ)). cons_option o (communications ds)) (sym joins)
communications_with d ds (Some merge) joins = ap (λ (o : Option (ℕ × ℕ)). cons_option o (communications ds)) (sym joins)
