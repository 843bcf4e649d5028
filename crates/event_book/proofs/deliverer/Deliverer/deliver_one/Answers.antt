use Rattle.std.proofs.Common.{◌≡◌, ◌<◌, ℕ, List, [], ◌∷◌, ◌++◌, length, reverse, refl, sym, ◌∙◌, ap, subst, arith, Some}
use Rattle.std.specs.Prelude.{All, IfSome}
use Rattle.std.specs.Option.{option_map}
use Rattle.std.proofs.lemmas.Option.{IfSome_then}
use Rattle.causal_base.specs.declared.block.Block.TheVariants.{One}
use Rattle.causal_base.specs.declared.entry.Entry.TheVariants.{Gone}
use Rattle.causal_base.specs.declared.event.Event.{Event}
use Rattle.causal_base.specs.declared.event_id.EventId.{EventId}
use Rattle.causal_base.specs.Clusters.{Clustering, communications, partition, traces_joined}
use Rattle.causal_base.specs.Event.{IsFit}
use Rattle.causal_base.specs.Clocks.{HasClocks}
use Rattle.causal_base.specs.History.{alone, all_events, IsCausal}
use Rattle.causal_base.specs.Journal.{came_by, deliveries_by}
use Rattle.causal_base.specs.Past.{event_of, IsNext}
use Rattle.causal_base.specs.Stamps.{ClusterTimestamp, IsStamp, joined_level}
use Rattle.causal_base.specs.Types.{TypeTable}
use Rattle.causal_base.proofs.CallerLemmas.{Contains-here, came_fit, event_of-member, is_same_id-same}
use Rattle.cluster_levels.specs.Levels.{ClusterLevels, StandsAfter, clustering_of}
use Rattle.cluster_members.specs.Kept.{AreKept, cluster_of}
use Rattle.cluster_merge.specs.Planned.{IsPlanned}
use Rattle.vector_flight.specs.Flights.{IsAheadOf, IsFlightOf}
use Rattle.event_book.specs.Delivering.{AreAtHand}
use Rattle.event_book.specs.Stamping.{IsMergeOf, StampedState, traces_of, with_merge}
use Rattle.event_book.proofs.Blocks.{one_found}
use Rattle.event_book.proofs.Going.{causal_one, on_one}
use Rattle.event_book.proofs.AtHand.{cluster_within, flight_later, found_is, kept_later, members_later, planned_stamp}
use Rattle.event_book.proofs.deliverer.Deliverer.deliver_one.Goals as goal

pub unreachable-requires : goal.unreachable-requires
unreachable-requires c =
    let s = c.self.inside.stamped in
    let next = subst (λ (v : StampedState). IsNext v.types (reverse v.journal) (One c.args.id)) (sym c.self.view_is) c.requires in
    let found = one_found s.types s.journal c.args.id next in
    let member = event_of-member (came_by s.journal) c.args.id found.0 found.1 in
    c.in_default.ensures.none (found.0, member.0, member.1)

pub ahead-requires-clause-first : goal.ahead-requires-clause-first
ahead-requires-clause-first c =
    let s = c.self.inside.stamped in
    let is = c.types.ensures.stamped in
    subst (λ (t : TypeTable). IsFit t c.in-Some.event.now) (sym c.types.ensures.types) (came_fit s.types (reverse s.journal) is.legal c.in-Some.event.now c.in-Some.ensures.some.0)

pub invariant_of-self : goal.invariant_of-self
invariant_of-self c =
    record {
      kept = c.self.invariant.kept;
      in_flight = c.ahead.ensures.meaning c.self.inside.stamped.types (deliveries_by c.self.inside.stamped.journal) c.self.invariant.in_flight;
    }

pub plan_with-merge-requires-clause-trace : goal.plan_with-merge-requires-clause-trace
plan_with-merge-requires-clause-trace c =
    let s = c.self.inside.stamped in
    let next = subst (λ (v : StampedState). IsNext v.types (reverse v.journal) (One c.args.id)) (sym c.self.view_is) c.requires in
    let is = c.types.ensures.stamped in
    let on = on_one s is c.args.id next in
    let traces = is.traces in
    subst (λ (l : ClusterLevels). c.args.id.trace < l.traces) (sym c.levels-levels.ensures.levels) (omega (arith, on, traces))

pub plan_with-merge-requires-clause-mate : goal.plan_with-merge-requires-clause-mate
plan_with-merge-requires-clause-mate c =
    let s = c.self.inside.stamped in
    let is = c.types.ensures.stamped in
    let fit = came_fit s.types (reverse s.journal) is.legal c.in-Some.event.now c.in-Some.ensures.some.0 in
    let traces = is.traces in
    subst (λ (l : ClusterLevels). IfSome c.in-Some.event.now.mate (λ (i : EventId). i.trace < l.traces)) (sym c.levels-levels.ensures.levels)
    (IfSome_then c.in-Some.event.now.mate fit.mate_in_range (λ i in_range. let below = in_range.trace in omega (arith, below, traces)))

pub cluster_after-requires-clause-trace : goal.cluster_after-requires-clause-trace
cluster_after-requires-clause-trace c =
    let s = c.self.inside.stamped in
    let next = subst (λ (v : StampedState). IsNext v.types (reverse v.journal) (One c.args.id)) (sym c.self.view_is) c.requires in
    let is = c.types.ensures.stamped in
    let on = on_one s is c.args.id next in
    let traces = is.traces in
    subst (λ (l : ClusterLevels). c.args.id.trace < l.traces) (sym c.levels-levels.ensures.levels) (omega (arith, on, traces))

pub invariant_of-self-in_err-cluster : goal.invariant_of-self-in_err-cluster
invariant_of-self-in_err-cluster c =
    record {
      kept = c.self.invariant.kept;
      in_flight = c.ahead.ensures.meaning c.self.inside.stamped.types (deliveries_by c.self.inside.stamped.journal) c.self.invariant.in_flight;
    }

pub new-requires : goal.new-requires
new-requires c k d inside =
    let s = c.self.inside.stamped in
    let is = c.types.ensures.stamped in
    let so_far = communications (deliveries_by s.journal) in
    let levels_are = c.levels-levels.ensures.levels in
    let stands = subst (λ (l : ClusterLevels). StandsAfter l so_far) (sym levels_are) is.stands in
    let members_are = c.in_ok-cluster.ensures.members so_far stands in
    let below = subst (λ (l : List ℕ). All (λ t. t < (clustering_of c.levels-levels.result.now).traces) l) (sym members_are)
    (cluster_within (clustering_of c.levels-levels.result.now) (with_merge c.plan_with-merge.result so_far) c.in_ok-cluster.cluster.level c.args.id.trace) k d inside in
    let many = ap (λ (l : ClusterLevels). l.traces) levels_are in
    let traces = is.traces in
    let flight = (c.ahead.ensures.meaning s.types (deliveries_by s.journal) c.self.invariant.in_flight).traces in
    let as_many = c.in_ok-ahead.ensures.of_traces.as_many in
    let long = ap (λ (l : List ℕ). length l) c.vector.ensures in
    omega (arith, below, many, traces, flight, as_many, long)

pub invariant_of-self-in_err-stamp : goal.invariant_of-self-in_err-stamp
invariant_of-self-in_err-stamp c =
    record {
      kept = c.self.invariant.kept;
      in_flight = c.ahead.ensures.meaning c.self.inside.stamped.types (deliveries_by c.self.inside.stamped.journal) c.self.invariant.in_flight;
    }

pub reserve-requires : goal.reserve-requires
reserve-requires c =
    let s = c.self.inside.stamped in
    let next = subst (λ (v : StampedState). IsNext v.types (reverse v.journal) (One c.args.id)) (sym c.self.view_is) c.requires in
    on_one s c.types.ensures.stamped c.args.id next

pub invariant_of-self-in_err-reserve : goal.invariant_of-self-in_err-reserve
invariant_of-self-in_err-reserve c =
    subst (λ (v : StampedState). AreAtHand v c.self.inside.members c.ahead.new.self) (sym c.reserve.ensures.same) (record {
      kept = c.self.invariant.kept;
      in_flight = c.ahead.ensures.meaning c.self.inside.stamped.types (deliveries_by c.self.inside.stamped.journal) c.self.invariant.in_flight;
    })

pub deliver_one-requires-clause-merge : goal.deliver_one-requires-clause-merge
deliver_one-requires-clause-merge c =
    let s = c.self.inside.stamped in
    let next = subst (λ (v : StampedState). IsNext v.types (reverse v.journal) (One c.args.id)) (sym c.self.view_is) c.requires in
    let is = c.types.ensures.stamped in
    subst (λ (v : StampedState). (e : Event) → event_of (came_by v.journal) c.args.id ≡ Some e → IsMergeOf v.levels (alone e) c.plan_with-merge.result) (sym c.reserve.ensures.same)
    (λ e found.
    let known = c.in-Some.event.now in
    let has = c.in-Some.ensures.some in
    let the = one_found s.types s.journal c.args.id next in
    let is_the = found_is s.types s.journal is.legal c.args.id the.0 known the.1 has.0 has.1 in
    let joins : traces_joined (alone known) ≡ option_map traces_of c.plan_with-merge.result =
    ap (λ (i : EventId). option_map (λ (m : EventId). (i.trace, m.trace)) known.mate) has.1 ∙ c.plan_with-merge.ensures.joins in
    let same = found_is s.types s.journal is.legal c.args.id e known found has.0 has.1 in
    subst (λ (x : Event). IsMergeOf s.levels (alone x) c.plan_with-merge.result) same (record {
      joins = joins;
      planned = subst (λ (l : ClusterLevels). IfSome c.plan_with-merge.result (IsPlanned l)) c.levels-levels.ensures.levels c.plan_with-merge.ensures.planned;
    }))

pub deliver_one-requires-clause-stamp : goal.deliver_one-requires-clause-stamp
deliver_one-requires-clause-stamp c =
    let s = c.self.inside.stamped in
    let next = subst (λ (v : StampedState). IsNext v.types (reverse v.journal) (One c.args.id)) (sym c.self.view_is) c.requires in
    let is = c.types.ensures.stamped in
    let so_far = communications (deliveries_by s.journal) in
    let levels_are = c.levels-levels.ensures.levels in
    let stands = subst (λ (l : ClusterLevels). StandsAfter l so_far) (sym levels_are) is.stands in
    let known = c.in-Some.event.now in
    let has = c.in-Some.ensures.some in
    let the = one_found s.types s.journal c.args.id next in
    let is_the = found_is s.types s.journal is.legal c.args.id the.0 known the.1 has.0 has.1 in
    let joins : traces_joined (alone known) ≡ option_map traces_of c.plan_with-merge.result =
    ap (λ (i : EventId). option_map (λ (m : EventId). (i.trace, m.trace)) known.mate) has.1 ∙ c.plan_with-merge.ensures.joins in
    let ds = deliveries_by s.journal in
    let causal = subst (λ (x : Event). IsCausal s.types (alone x ∷ ds)) (sym is_the) (causal_one s is c.args.id next) in
    let ahead = subst (λ (t : TypeTable). IsAheadOf t ds (alone known) c.in_ok-ahead.ahead) c.types.ensures.types
    (c.in_ok-ahead.ensures.ahead s.journal (record { same = refl; legal = is.legal }) (subst (λ (t : TypeTable). IsFlightOf t ds c.self.inside.flight) (sym c.types.ensures.types) c.self.invariant.in_flight)
    (subst (λ (t : TypeTable). IsCausal t (alone known ∷ ds)) (sym c.types.ensures.types) causal)) in
    let level_is = subst (λ (l : ClusterLevels). c.in_ok-cluster.cluster.level ≡ joined_level (clustering_of l) (partition (clustering_of l) (with_merge c.plan_with-merge.result so_far)) (option_map traces_of c.plan_with-merge.result)) levels_are
    (c.in_ok-cluster.ensures.level so_far stands) in
    let members_are = subst (λ (l : ClusterLevels). c.in_ok-cluster.cluster.members ≡ cluster_of (clustering_of l) (with_merge c.plan_with-merge.result so_far) c.in_ok-cluster.cluster.level c.args.id.trace) levels_are
    (c.in_ok-cluster.ensures.members so_far stands) in
    let its = planned_stamp s is (alone known) c.plan_with-merge.result joins causal known (Contains-here known []) (is_same_id-same known.id) c.in_ok-cluster.cluster.level c.in_ok-cluster.cluster.members c.vector.result.now
    level_is (members_are ∙ ap (λ (i : EventId). cluster_of (clustering_of s.levels) (with_merge c.plan_with-merge.result so_far) c.in_ok-cluster.cluster.level i.trace) (sym has.1))
    (subst (λ (l : List ℕ). HasClocks s.types (all_events (alone known ∷ ds)) known.id l) (sym c.vector.ensures) (ahead.clock_is known (Contains-here known []))) in
    subst (λ (v : StampedState). (e : Event) → event_of (came_by v.journal) c.args.id ≡ Some e → IsStamp v.types (clustering_of v.levels) (alone e ∷ deliveries_by v.journal) e c.in_ok-stamp.stamp) (sym c.reserve.ensures.same)
    (λ e found.
    subst (λ (x : Event). IsStamp s.types (clustering_of s.levels) (alone x ∷ ds) x c.in_ok-stamp.stamp) (found_is s.types s.journal is.legal c.args.id e known found has.0 has.1)
    (subst (λ (t : ClusterTimestamp). IsStamp s.types (clustering_of s.levels) (alone known ∷ ds) known t) (sym c.in_ok-stamp.ensures) its))

pub keep-requires-2-clause-trace : goal.keep-requires-2-clause-trace
keep-requires-2-clause-trace c =
    let s = c.self.inside.stamped in
    let next = subst (λ (v : StampedState). IsNext v.types (reverse v.journal) (One c.args.id)) (sym c.self.view_is) c.requires in
    let is = c.types.ensures.stamped in
    let on = on_one s is c.args.id next in
    let many = ap (λ (l : ClusterLevels). l.traces) c.levels.ensures.levels in
    let traces = ap (λ (cl : Clustering). cl.traces) (c.deliver_one.ensures.clustering ∙ ap (λ (v : StampedState). clustering_of v.levels) c.reserve.ensures.same) in
    let same = is.traces in
    omega (arith, on, many, traces, same)

pub keep-requires-2-clause-kept : goal.keep-requires-2-clause-kept
keep-requires-2-clause-kept c =
    let s = c.self.inside.stamped in
    let next = subst (λ (v : StampedState). IsNext v.types (reverse v.journal) (One c.args.id)) (sym c.self.view_is) c.requires in
    let is = c.types.ensures.stamped in
    let so_far = communications (deliveries_by s.journal) in
    let levels_are = c.levels-levels.ensures.levels in
    let stands = subst (λ (l : ClusterLevels). StandsAfter l so_far) (sym levels_are) is.stands in
    let known = c.in-Some.event.now in
    let has = c.in-Some.ensures.some in
    let the = one_found s.types s.journal c.args.id next in
    let is_the = found_is s.types s.journal is.legal c.args.id the.0 known the.1 has.0 has.1 in
    let joins : traces_joined (alone known) ≡ option_map traces_of c.plan_with-merge.result =
    ap (λ (i : EventId). option_map (λ (m : EventId). (i.trace, m.trace)) known.mate) has.1 ∙ c.plan_with-merge.ensures.joins in
    let later = c.deliver_one.new.self in
    let journal_is = c.deliver_one.ensures.journal ∙ ap (λ (v : StampedState). v.journal ++ Gone c.args.id ∷ []) c.reserve.ensures.same in
    let clustering_is = c.deliver_one.ensures.clustering ∙ ap (λ (v : StampedState). clustering_of v.levels) c.reserve.ensures.same in
    let is_d = the.2 ∙ ap (λ (x : Event). alone x) (sym is_the) in
    let members_are = subst (λ (l : ClusterLevels). c.in_ok-cluster.cluster.members ≡ cluster_of (clustering_of l) (with_merge c.plan_with-merge.result so_far) c.in_ok-cluster.cluster.level c.args.id.trace) levels_are
    (c.in_ok-cluster.ensures.members so_far stands) in
    let level = c.in_ok-cluster.cluster.level in
    let members = c.in_ok-cluster.cluster.members in
    subst (λ (l : ClusterLevels). (cs : List (ℕ × ℕ)) × StandsAfter l cs × AreKept (clustering_of l) cs c.self.inside.members × (members ≡ cluster_of (clustering_of l) cs level c.args.id.trace)) (sym c.levels.ensures.levels) (
      communications (deliveries_by later.journal),
      c.levels.ensures.stamped.stands,
      kept_later s is (alone known) c.plan_with-merge.result joins (One c.args.id) next is_d later journal_is clustering_is c.self.inside.members c.self.invariant.kept,
      members_later s is (alone known) c.plan_with-merge.result joins (One c.args.id) next is_d later journal_is clustering_is members level c.args.id.trace members_are,
    )

pub invariant_of-self-2 : goal.invariant_of-self-2
invariant_of-self-2 c =
    let s = c.self.inside.stamped in
    let next = subst (λ (v : StampedState). IsNext v.types (reverse v.journal) (One c.args.id)) (sym c.self.view_is) c.requires in
    let is = c.types.ensures.stamped in
    let known = c.in-Some.event.now in
    let has = c.in-Some.ensures.some in
    let the = one_found s.types s.journal c.args.id next in
    let is_the = found_is s.types s.journal is.legal c.args.id the.0 known the.1 has.0 has.1 in
    let joins : traces_joined (alone known) ≡ option_map traces_of c.plan_with-merge.result =
    ap (λ (i : EventId). option_map (λ (m : EventId). (i.trace, m.trace)) known.mate) has.1 ∙ c.plan_with-merge.ensures.joins in
    let ds = deliveries_by s.journal in
    let later = c.deliver_one.new.self in
    let journal_is = c.deliver_one.ensures.journal ∙ ap (λ (v : StampedState). v.journal ++ Gone c.args.id ∷ []) c.reserve.ensures.same in
    let clustering_is = c.deliver_one.ensures.clustering ∙ ap (λ (v : StampedState). clustering_of v.levels) c.reserve.ensures.same in
    let types_are = c.deliver_one.ensures.types ∙ ap (λ (v : StampedState). v.types) c.reserve.ensures.same in
    let is_d = the.2 ∙ ap (λ (x : Event). alone x) (sym is_the) in
    let causal = subst (λ (x : Event). IsCausal s.types (alone x ∷ ds)) (sym is_the) (causal_one s is c.args.id next) in
    let ahead = subst (λ (t : TypeTable). IsAheadOf t ds (alone known) c.in_ok-ahead.ahead) c.types.ensures.types
    (c.in_ok-ahead.ensures.ahead s.journal (record { same = refl; legal = is.legal }) (subst (λ (t : TypeTable). IsFlightOf t ds c.self.inside.flight) (sym c.types.ensures.types) c.self.invariant.in_flight)
    (subst (λ (t : TypeTable). IsCausal t (alone known ∷ ds)) (sym c.types.ensures.types) causal)) in
    let flight = c.keep.ensures.stands s.types ds (alone known) (c.ahead.ensures.meaning s.types ds c.self.invariant.in_flight) ahead in
    let kept = kept_later s is (alone known) c.plan_with-merge.result joins (One c.args.id) next is_d later journal_is clustering_is c.self.inside.members c.self.invariant.kept in
    record {
      kept =
          subst (λ (l : ClusterLevels). AreKept (clustering_of l) (communications (deliveries_by later.journal)) c.keep-2.new.self) c.levels.ensures.levels
          (c.keep-2.ensures.kept (communications (deliveries_by later.journal)) (subst (λ (l : ClusterLevels). StandsAfter l (communications (deliveries_by later.journal))) (sym c.levels.ensures.levels) c.levels.ensures.stamped.stands)
          (subst (λ (l : ClusterLevels). AreKept (clustering_of l) (communications (deliveries_by later.journal)) c.self.inside.members) (sym c.levels.ensures.levels) kept));
      in_flight = flight_later s is (alone known) c.plan_with-merge.result joins (One c.args.id) next is_d later journal_is clustering_is c.keep.new.self types_are flight;
    }
