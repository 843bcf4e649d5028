use Rattle.std.proofs.Common.{◌≡◌, ◌<◌, ℕ, List, [], ◌∷◌, ◌++◌, length, reverse, refl, sym, ◌∙◌, ap, subst, arith, Some}
use Rattle.std.specs.Prelude.{All}
use Rattle.std.specs.Option.{option_map}
use Rattle.causal_base.specs.declared.block.Block.TheVariants.{Two}
use Rattle.causal_base.specs.declared.entry.Entry.TheVariants.{Pair}
use Rattle.causal_base.specs.declared.event.Event.{Event}
use Rattle.causal_base.specs.Clusters.{Clustering, communications, partition}
use Rattle.causal_base.specs.Event.{IsFit}
use Rattle.causal_base.specs.Clocks.{HasClocks}
use Rattle.causal_base.specs.History.{together, all_events, IsCausal}
use Rattle.causal_base.specs.Journal.{came_by, deliveries_by}
use Rattle.causal_base.specs.Past.{event_of, IsNext}
use Rattle.causal_base.specs.Stamps.{ClusterTimestamp, IsStamp, joined_level}
use Rattle.causal_base.specs.Types.{TypeTable}
use Rattle.causal_base.proofs.CallerLemmas.{Contains-here, Contains-there, came_fit, event_of-member}
use Rattle.cluster_levels.specs.Levels.{ClusterLevels, StandsAfter, clustering_of}
use Rattle.cluster_members.specs.Kept.{AreKept, cluster_of}
use Rattle.cluster_merge.specs.Planned.{IsPlanned}
use Rattle.vector_flight.specs.Flights.{IsAheadOf, IsFlightOf}
use Rattle.event_book.specs.Delivering.{AreAtHand}
use Rattle.event_book.specs.Stamping.{IsMergeOf, StampedState, traces_of, with_merge}
use Rattle.event_book.proofs.Blocks.{two_found}
use Rattle.event_book.proofs.Going.{on_first, on_second}
use Rattle.event_book.proofs.AtHand.{cluster_within, flight_later, kept_later, members_later}
use Rattle.event_book.proofs.Partners.{causal_both, found_first, found_second, is_both, joins_both, stamp_first, stamp_second}
use Rattle.event_book.proofs.deliverer.Deliverer.deliver_two.Goals as goal

pub unreachable-requires : goal.unreachable-requires
unreachable-requires c =
    let s = c.self.inside.stamped in
    let next = subst (λ (v : StampedState). IsNext v.types (reverse v.journal) (Two c.args.first c.args.second)) (sym c.self.view_is) c.requires in
    let found = two_found s.types s.journal c.args.first c.args.second next in
    let member = event_of-member (came_by s.journal) c.args.first found.0 found.2 in
    c.in_default.ensures.none (found.0, member.0, member.1)

pub unreachable-requires-in_default-accepted_event : goal.unreachable-requires-in_default-accepted_event
unreachable-requires-in_default-accepted_event c =
    let s = c.self.inside.stamped in
    let next = subst (λ (v : StampedState). IsNext v.types (reverse v.journal) (Two c.args.first c.args.second)) (sym c.self.view_is) c.requires in
    let found = two_found s.types s.journal c.args.first c.args.second next in
    let member = event_of-member (came_by s.journal) c.args.second found.1 found.3 in
    c.in_default-accepted_event.ensures.none (found.1, member.0, member.1)

pub ahead-requires-clause-first : goal.ahead-requires-clause-first
ahead-requires-clause-first c =
    let s = c.self.inside.stamped in
    let is = c.types.ensures.stamped in
    subst (λ (t : TypeTable). IsFit t c.in-Some.event.now) (sym c.types.ensures.types) (came_fit s.types (reverse s.journal) is.legal c.in-Some.event.now c.in-Some.ensures.some.0)

pub ahead-requires-clause-second : goal.ahead-requires-clause-second
ahead-requires-clause-second c =
    let s = c.self.inside.stamped in
    let is = c.types.ensures.stamped in
    subst (λ (t : TypeTable). IsFit t c.in-Some-accepted_event.partner.now) (sym c.types.ensures.types) (came_fit s.types (reverse s.journal) is.legal c.in-Some-accepted_event.partner.now c.in-Some-accepted_event.ensures.some.0)

pub invariant_of-self : goal.invariant_of-self
invariant_of-self c =
    record {
      kept = c.self.invariant.kept;
      in_flight = c.ahead.ensures.meaning c.self.inside.stamped.types (deliveries_by c.self.inside.stamped.journal) c.self.invariant.in_flight;
    }

pub plan-merge-requires-clause-p : goal.plan-merge-requires-clause-p
plan-merge-requires-clause-p c =
    let s = c.self.inside.stamped in
    let next = subst (λ (v : StampedState). IsNext v.types (reverse v.journal) (Two c.args.first c.args.second)) (sym c.self.view_is) c.requires in
    let is = c.types.ensures.stamped in
    let on = on_first s is c.args.first c.args.second next in
    let traces = is.traces in
    subst (λ (l : ClusterLevels). c.args.first.trace < l.traces) (sym c.levels-levels.ensures.levels) (omega (arith, on, traces))

pub plan-merge-requires-clause-q : goal.plan-merge-requires-clause-q
plan-merge-requires-clause-q c =
    let s = c.self.inside.stamped in
    let next = subst (λ (v : StampedState). IsNext v.types (reverse v.journal) (Two c.args.first c.args.second)) (sym c.self.view_is) c.requires in
    let is = c.types.ensures.stamped in
    let on = on_second s is c.args.first c.args.second next in
    let traces = is.traces in
    subst (λ (l : ClusterLevels). c.args.second.trace < l.traces) (sym c.levels-levels.ensures.levels) (omega (arith, on, traces))

pub invariant_of-self-in_err-cluster : goal.invariant_of-self-in_err-cluster
invariant_of-self-in_err-cluster c =
    record {
      kept = c.self.invariant.kept;
      in_flight = c.ahead.ensures.meaning c.self.inside.stamped.types (deliveries_by c.self.inside.stamped.journal) c.self.invariant.in_flight;
    }

pub new-requires : goal.new-requires
new-requires c k d inside =
    let s = c.self.inside.stamped in
    let is = c.types.ensures.stamped in
    let so_far = communications (deliveries_by s.journal) in
    let levels_are = c.levels-levels.ensures.levels in
    let stands = subst (λ (l : ClusterLevels). StandsAfter l so_far) (sym levels_are) is.stands in
    let members_are = c.in_ok-cluster.ensures.members so_far stands in
    let below = subst (λ (l : List ℕ). All (λ t. t < (clustering_of c.levels-levels.result.now).traces) l) (sym members_are)
    (cluster_within (clustering_of c.levels-levels.result.now) (with_merge (Some c.plan-merge.result) so_far) c.in_ok-cluster.cluster.level c.args.first.trace) k d inside in
    let many = ap (λ (l : ClusterLevels). l.traces) levels_are in
    let traces = is.traces in
    let flight = (c.ahead.ensures.meaning s.types (deliveries_by s.journal) c.self.invariant.in_flight).traces in
    let as_many = c.in_ok-ahead.ensures.of_traces.as_many in
    let long = ap (λ (l : List ℕ). length l) c.vector.ensures in
    omega (arith, below, many, traces, flight, as_many, long)

pub invariant_of-self-in_err-stamp : goal.invariant_of-self-in_err-stamp
invariant_of-self-in_err-stamp c =
    record {
      kept = c.self.invariant.kept;
      in_flight = c.ahead.ensures.meaning c.self.inside.stamped.types (deliveries_by c.self.inside.stamped.journal) c.self.invariant.in_flight;
    }

pub invariant_of-self-in_err-other : goal.invariant_of-self-in_err-other
invariant_of-self-in_err-other c =
    record {
      kept = c.self.invariant.kept;
      in_flight = c.ahead.ensures.meaning c.self.inside.stamped.types (deliveries_by c.self.inside.stamped.journal) c.self.invariant.in_flight;
    }

pub reserve-requires : goal.reserve-requires
reserve-requires c =
    let s = c.self.inside.stamped in
    let next = subst (λ (v : StampedState). IsNext v.types (reverse v.journal) (Two c.args.first c.args.second)) (sym c.self.view_is) c.requires in
    on_first s c.types.ensures.stamped c.args.first c.args.second next

pub invariant_of-self-in_err-reserve : goal.invariant_of-self-in_err-reserve
invariant_of-self-in_err-reserve c =
    subst (λ (v : StampedState). AreAtHand v c.self.inside.members c.ahead.new.self) (sym c.reserve.ensures.same) (record {
      kept = c.self.invariant.kept;
      in_flight = c.ahead.ensures.meaning c.self.inside.stamped.types (deliveries_by c.self.inside.stamped.journal) c.self.invariant.in_flight;
    })

pub reserve-requires-2 : goal.reserve-requires-2
reserve-requires-2 c =
    let s = c.self.inside.stamped in
    let next = subst (λ (v : StampedState). IsNext v.types (reverse v.journal) (Two c.args.first c.args.second)) (sym c.self.view_is) c.requires in
    subst (λ (v : StampedState). c.args.second.trace < v.types.traces) (sym c.reserve.ensures.same) (on_second s c.types.ensures.stamped c.args.first c.args.second next)

pub invariant_of-self-in_err-reserve-2 : goal.invariant_of-self-in_err-reserve-2
invariant_of-self-in_err-reserve-2 c =
    let s = c.self.inside.stamped in
    let same2 : c.reserve-2.new.self ≡ record s { stamps = c.reserve-2.new.self.stamps } =
    c.reserve-2.ensures.same ∙ ap (λ (v : StampedState). let w : StampedState = record v { stamps = c.reserve-2.new.self.stamps } in w) c.reserve.ensures.same in
    subst (λ (v : StampedState). AreAtHand v c.self.inside.members c.ahead.new.self) (sym same2) (record {
      kept = c.self.invariant.kept;
      in_flight = c.ahead.ensures.meaning c.self.inside.stamped.types (deliveries_by c.self.inside.stamped.journal) c.self.invariant.in_flight;
    })

pub deliver_two-requires-clause-next : goal.deliver_two-requires-clause-next
deliver_two-requires-clause-next c =
    let s = c.self.inside.stamped in
    let next = subst (λ (v : StampedState). IsNext v.types (reverse v.journal) (Two c.args.first c.args.second)) (sym c.self.view_is) c.requires in
    let same2 : c.reserve-2.new.self ≡ record s { stamps = c.reserve-2.new.self.stamps } =
    c.reserve-2.ensures.same ∙ ap (λ (v : StampedState). let w : StampedState = record v { stamps = c.reserve-2.new.self.stamps } in w) c.reserve.ensures.same in
    subst (λ (v : StampedState). IsNext v.types (reverse v.journal) (Two c.args.first c.args.second)) (sym same2) next

pub deliver_two-requires-clause-merge : goal.deliver_two-requires-clause-merge
deliver_two-requires-clause-merge c =
    let s = c.self.inside.stamped in
    let next = subst (λ (v : StampedState). IsNext v.types (reverse v.journal) (Two c.args.first c.args.second)) (sym c.self.view_is) c.requires in
    let is = c.types.ensures.stamped in
    let m = c.plan-merge.result in
    let a = c.in-Some.event.now in
    let b = c.in-Some-accepted_event.partner.now in
    let has_a = c.in-Some.ensures.some in
    let has_b = c.in-Some-accepted_event.ensures.some in
    let joins = joins_both s is c.args.first c.args.second next a b has_a has_b m c.plan-merge.ensures.traces.0 c.plan-merge.ensures.traces.1 in
    let same2 : c.reserve-2.new.self ≡ record s { stamps = c.reserve-2.new.self.stamps } =
    c.reserve-2.ensures.same ∙ ap (λ (v : StampedState). let w : StampedState = record v { stamps = c.reserve-2.new.self.stamps } in w) c.reserve.ensures.same in
    subst (λ (v : StampedState). (x y : Event) → event_of (came_by v.journal) c.args.first ≡ Some x → event_of (came_by v.journal) c.args.second ≡ Some y → IsMergeOf v.levels (together x y) (Some m)) (sym same2)
    (λ x y found other.
    let same_x = found_first s is c.args.first c.args.second next a b has_a has_b x found in
    let same_y = found_second s is c.args.first c.args.second next a b has_a has_b y other in
    subst (λ (e : Event). IsMergeOf s.levels (together e y) (Some m)) same_x (subst (λ (e : Event). IsMergeOf s.levels (together a e) (Some m)) same_y (record {
      joins = joins;
      planned = subst (λ (l : ClusterLevels). IsPlanned l m) c.levels-levels.ensures.levels c.plan-merge.ensures.planned;
    })))

pub deliver_two-requires-clause-stamps : goal.deliver_two-requires-clause-stamps
deliver_two-requires-clause-stamps c =
    let s = c.self.inside.stamped in
    let next = subst (λ (v : StampedState). IsNext v.types (reverse v.journal) (Two c.args.first c.args.second)) (sym c.self.view_is) c.requires in
    let is = c.types.ensures.stamped in
    let so_far = communications (deliveries_by s.journal) in
    let levels_are = c.levels-levels.ensures.levels in
    let stands = subst (λ (l : ClusterLevels). StandsAfter l so_far) (sym levels_are) is.stands in
    let m = c.plan-merge.result in
    let a = c.in-Some.event.now in
    let b = c.in-Some-accepted_event.partner.now in
    let has_a = c.in-Some.ensures.some in
    let has_b = c.in-Some-accepted_event.ensures.some in
    let joins = joins_both s is c.args.first c.args.second next a b has_a has_b m c.plan-merge.ensures.traces.0 c.plan-merge.ensures.traces.1 in
    let ds = deliveries_by s.journal in
    let causal = causal_both s is c.args.first c.args.second next a b has_a has_b in
    let ahead = subst (λ (t : TypeTable). IsAheadOf t ds (together a b) c.in_ok-ahead.ahead) c.types.ensures.types
    (c.in_ok-ahead.ensures.ahead s.journal (record { same = refl; legal = is.legal }) (subst (λ (t : TypeTable). IsFlightOf t ds c.self.inside.flight) (sym c.types.ensures.types) c.self.invariant.in_flight)
    (subst (λ (t : TypeTable). IsCausal t (together a b ∷ ds)) (sym c.types.ensures.types) causal)) in
    let same2 : c.reserve-2.new.self ≡ record s { stamps = c.reserve-2.new.self.stamps } =
    c.reserve-2.ensures.same ∙ ap (λ (v : StampedState). let w : StampedState = record v { stamps = c.reserve-2.new.self.stamps } in w) c.reserve.ensures.same in
    let cl = clustering_of s.levels in
    let level = c.in_ok-cluster.cluster.level in
    let members = c.in_ok-cluster.cluster.members in
    let level_is = subst (λ (l : ClusterLevels). level ≡ joined_level (clustering_of l) (partition (clustering_of l) (with_merge (Some m) so_far)) (option_map traces_of (Some m))) levels_are (c.in_ok-cluster.ensures.level so_far stands) in
    let members_are = subst (λ (l : ClusterLevels). members ≡ cluster_of (clustering_of l) (with_merge (Some m) so_far) level c.args.first.trace) levels_are (c.in_ok-cluster.ensures.members so_far stands) in
    let others_are = subst (λ (l : ClusterLevels). members ≡ cluster_of (clustering_of l) (with_merge (Some m) so_far) level m.q) levels_are (c.in_ok-cluster.ensures.second so_far stands) in
    let clock = c.vector.result.now in
    let its_a = stamp_first s is c.args.first c.args.second next a b has_a has_b m c.plan-merge.ensures.traces.0 c.plan-merge.ensures.traces.1 level members clock level_is members_are
    (subst (λ (l : List ℕ). HasClocks s.types (all_events (together a b ∷ ds)) a.id l) (sym c.vector.ensures) (ahead.clock_is a (Contains-there b (a ∷ []) a (Contains-here a [])))) in
    let its_b = stamp_second s is c.args.first c.args.second next a b has_a has_b m c.plan-merge.ensures.traces.0 c.plan-merge.ensures.traces.1 level members clock level_is others_are
    (subst (λ (l : List ℕ). HasClocks s.types (all_events (together a b ∷ ds)) b.id l) (sym c.vector.ensures) (ahead.clock_is b (Contains-here b (a ∷ [])))) in
    subst (λ (v : StampedState). (x y : Event) → event_of (came_by v.journal) c.args.first ≡ Some x → event_of (came_by v.journal) c.args.second ≡ Some y
    → IsStamp v.types (clustering_of v.levels) (together x y ∷ deliveries_by v.journal) x c.in_ok-stamp.stamp × IsStamp v.types (clustering_of v.levels) (together x y ∷ deliveries_by v.journal) y c.in_ok-other.other) (sym same2)
    (λ x y found other.
    let same_x = found_first s is c.args.first c.args.second next a b has_a has_b x found in
    let same_y = found_second s is c.args.first c.args.second next a b has_a has_b y other in
    subst (λ (e : Event). IsStamp s.types cl (together e y ∷ ds) e c.in_ok-stamp.stamp × IsStamp s.types cl (together e y ∷ ds) y c.in_ok-other.other) same_x
    (subst (λ (e : Event). IsStamp s.types cl (together a e ∷ ds) a c.in_ok-stamp.stamp × IsStamp s.types cl (together a e ∷ ds) e c.in_ok-other.other) same_y (
      subst (λ (t : ClusterTimestamp). IsStamp s.types cl (together a b ∷ ds) a t) (sym c.in_ok-stamp.ensures) its_a,
      subst (λ (t : ClusterTimestamp). IsStamp s.types cl (together a b ∷ ds) b t) (sym (c.in_ok-other.ensures ∙ c.in_ok-stamp.ensures)) its_b,
    )))

pub deliver_two-requires-clause-same : goal.deliver_two-requires-clause-same
deliver_two-requires-clause-same c = c.in_ok-other.ensures

pub keep-requires-2-clause-kept : goal.keep-requires-2-clause-kept
keep-requires-2-clause-kept c =
    let s = c.self.inside.stamped in
    let next = subst (λ (v : StampedState). IsNext v.types (reverse v.journal) (Two c.args.first c.args.second)) (sym c.self.view_is) c.requires in
    let is = c.types.ensures.stamped in
    let so_far = communications (deliveries_by s.journal) in
    let levels_are = c.levels-levels.ensures.levels in
    let stands = subst (λ (l : ClusterLevels). StandsAfter l so_far) (sym levels_are) is.stands in
    let m = c.plan-merge.result in
    let a = c.in-Some.event.now in
    let b = c.in-Some-accepted_event.partner.now in
    let has_a = c.in-Some.ensures.some in
    let has_b = c.in-Some-accepted_event.ensures.some in
    let joins = joins_both s is c.args.first c.args.second next a b has_a has_b m c.plan-merge.ensures.traces.0 c.plan-merge.ensures.traces.1 in
    let same2 : c.reserve-2.new.self ≡ record s { stamps = c.reserve-2.new.self.stamps } =
    c.reserve-2.ensures.same ∙ ap (λ (v : StampedState). let w : StampedState = record v { stamps = c.reserve-2.new.self.stamps } in w) c.reserve.ensures.same in
    let later = c.deliver_two.new.self in
    let journal_is = c.deliver_two.ensures.journal ∙ ap (λ (v : StampedState). v.journal ++ Pair c.args.first c.args.second ∷ []) same2 in
    let clustering_is = c.deliver_two.ensures.clustering ∙ ap (λ (v : StampedState). clustering_of v.levels) same2 in
    let types_are = c.deliver_two.ensures.types ∙ ap (λ (v : StampedState). v.types) same2 in
    let is_d = is_both s is c.args.first c.args.second next a b has_a has_b in
    let level = c.in_ok-cluster.cluster.level in
    let members = c.in_ok-cluster.cluster.members in
    let members_are = subst (λ (l : ClusterLevels). members ≡ cluster_of (clustering_of l) (with_merge (Some m) so_far) level c.args.first.trace) levels_are (c.in_ok-cluster.ensures.members so_far stands) in
    subst (λ (l : ClusterLevels). (cs : List (ℕ × ℕ)) × StandsAfter l cs × AreKept (clustering_of l) cs c.self.inside.members × (members ≡ cluster_of (clustering_of l) cs level c.args.first.trace)) (sym c.levels.ensures.levels) (
      communications (deliveries_by later.journal),
      c.levels.ensures.stamped.stands,
      kept_later s is (together a b) (Some m) joins (Two c.args.first c.args.second) next is_d later journal_is clustering_is c.self.inside.members c.self.invariant.kept,
      members_later s is (together a b) (Some m) joins (Two c.args.first c.args.second) next is_d later journal_is clustering_is members level c.args.first.trace members_are,
    )

pub keep-requires-2-clause-trace : goal.keep-requires-2-clause-trace
keep-requires-2-clause-trace c =
    let s = c.self.inside.stamped in
    let next = subst (λ (v : StampedState). IsNext v.types (reverse v.journal) (Two c.args.first c.args.second)) (sym c.self.view_is) c.requires in
    let is = c.types.ensures.stamped in
    let same2 : c.reserve-2.new.self ≡ record s { stamps = c.reserve-2.new.self.stamps } =
    c.reserve-2.ensures.same ∙ ap (λ (v : StampedState). let w : StampedState = record v { stamps = c.reserve-2.new.self.stamps } in w) c.reserve.ensures.same in
    let on = on_first s is c.args.first c.args.second next in
    let many = ap (λ (l : ClusterLevels). l.traces) c.levels.ensures.levels in
    let traces = ap (λ (cl : Clustering). cl.traces) (c.deliver_two.ensures.clustering ∙ ap (λ (v : StampedState). clustering_of v.levels) same2) in
    let same = is.traces in
    omega (arith, on, many, traces, same)

pub invariant_of-self-2 : goal.invariant_of-self-2
invariant_of-self-2 c =
    let s = c.self.inside.stamped in
    let next = subst (λ (v : StampedState). IsNext v.types (reverse v.journal) (Two c.args.first c.args.second)) (sym c.self.view_is) c.requires in
    let is = c.types.ensures.stamped in
    let m = c.plan-merge.result in
    let a = c.in-Some.event.now in
    let b = c.in-Some-accepted_event.partner.now in
    let has_a = c.in-Some.ensures.some in
    let has_b = c.in-Some-accepted_event.ensures.some in
    let joins = joins_both s is c.args.first c.args.second next a b has_a has_b m c.plan-merge.ensures.traces.0 c.plan-merge.ensures.traces.1 in
    let ds = deliveries_by s.journal in
    let causal = causal_both s is c.args.first c.args.second next a b has_a has_b in
    let ahead = subst (λ (t : TypeTable). IsAheadOf t ds (together a b) c.in_ok-ahead.ahead) c.types.ensures.types
    (c.in_ok-ahead.ensures.ahead s.journal (record { same = refl; legal = is.legal }) (subst (λ (t : TypeTable). IsFlightOf t ds c.self.inside.flight) (sym c.types.ensures.types) c.self.invariant.in_flight)
    (subst (λ (t : TypeTable). IsCausal t (together a b ∷ ds)) (sym c.types.ensures.types) causal)) in
    let same2 : c.reserve-2.new.self ≡ record s { stamps = c.reserve-2.new.self.stamps } =
    c.reserve-2.ensures.same ∙ ap (λ (v : StampedState). let w : StampedState = record v { stamps = c.reserve-2.new.self.stamps } in w) c.reserve.ensures.same in
    let later = c.deliver_two.new.self in
    let journal_is = c.deliver_two.ensures.journal ∙ ap (λ (v : StampedState). v.journal ++ Pair c.args.first c.args.second ∷ []) same2 in
    let clustering_is = c.deliver_two.ensures.clustering ∙ ap (λ (v : StampedState). clustering_of v.levels) same2 in
    let types_are = c.deliver_two.ensures.types ∙ ap (λ (v : StampedState). v.types) same2 in
    let is_d = is_both s is c.args.first c.args.second next a b has_a has_b in
    let flight = c.keep.ensures.stands s.types ds (together a b) (c.ahead.ensures.meaning s.types ds c.self.invariant.in_flight) ahead in
    let kept = kept_later s is (together a b) (Some m) joins (Two c.args.first c.args.second) next is_d later journal_is clustering_is c.self.inside.members c.self.invariant.kept in
    record {
      kept =
          subst (λ (l : ClusterLevels). AreKept (clustering_of l) (communications (deliveries_by later.journal)) c.keep-2.new.self) c.levels.ensures.levels
          (c.keep-2.ensures.kept (communications (deliveries_by later.journal)) (subst (λ (l : ClusterLevels). StandsAfter l (communications (deliveries_by later.journal))) (sym c.levels.ensures.levels) c.levels.ensures.stamped.stands)
          (subst (λ (l : ClusterLevels). AreKept (clustering_of l) (communications (deliveries_by later.journal)) c.self.inside.members) (sym c.levels.ensures.levels) kept));
      in_flight = flight_later s is (together a b) (Some m) joins (Two c.args.first c.args.second) next is_d later journal_is clustering_is c.keep.new.self types_are flight;
    }
