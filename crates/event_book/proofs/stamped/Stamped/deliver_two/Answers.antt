use Rattle.std.proofs.Common.{◌≡◌, ◌+◌, [], ◌∷◌, ◌++◌, reverse, sym, ◌∙◌, ap, subst, arith, Some}
use Rattle.std.specs.Prelude.{◌==◌, count_by}
use Rattle.std.proofs.lemmas.List.Sums.{count_by-le-length}
use Rattle.causal_base.specs.declared.block.Block.TheVariants.{Two}
use Rattle.causal_base.specs.declared.entry.Entry.TheVariants.{Pair}
use Rattle.causal_base.specs.declared.event.Event.{Event}
use Rattle.causal_base.specs.Clusters.{Clustering, communications, levels_of}
use Rattle.causal_base.specs.History.{together}
use Rattle.causal_base.specs.Journal.{came_by, deliveries_by}
use Rattle.causal_base.specs.Past.{event_of, IsNext}
use Rattle.causal_base.specs.Stamps.{ClusterTimestamp, IsStamp}
use Rattle.cluster_levels.specs.Levels.{StandsAfter, clustering_of}
use Rattle.delivery.specs.Deliveries.{TypedJournal}
use Rattle.event_book.specs.Stamping.{IsMergeOf, IsStamped, StampedState}
use Rattle.shared_list.specs.Traces.{with_item}
use Rattle.event_book.proofs.Blocks.{two_found}
use Rattle.event_book.proofs.Going.{communications_with, full_few, most_first, most_second, number_first, number_second, on_first, on_second, stamped_two}
use Rattle.event_book.proofs.stamped.Stamped.deliver_two.Goals as goal

pub merge_clusters-requires-clause-stands : goal.merge_clusters-requires-clause-stands
merge_clusters-requires-clause-stands c = (communications (deliveries_by c.self.inside.delivery.journal), c.self.invariant.stands)

pub merge_clusters-requires-clause-planned : goal.merge_clusters-requires-clause-planned
merge_clusters-requires-clause-planned c =
    let s : StampedState = record { types = c.self.inside.delivery.types; journal = c.self.inside.delivery.journal; levels = c.self.inside.levels; stamps = c.self.inside.stamps; full = c.self.inside.full } in
    let next = subst (λ (v : StampedState). IsNext v.types (reverse v.journal) (Two c.args.first c.args.second)) (sym c.self.view_is) c.requires.next in
    let found = two_found s.types s.journal c.args.first c.args.second next in
    let merges = subst (λ (v : StampedState). (a b : Event) → event_of (came_by v.journal) c.args.first ≡ Some a → event_of (came_by v.journal) c.args.second ≡ Some b → IsMergeOf v.levels (together a b) (Some c.args.merge)) (sym c.self.view_is) c.requires.merge found.0 found.1 found.2 found.3 in
    merges.planned

pub deliver_block-requires : goal.deliver_block-requires
deliver_block-requires c =
    subst (λ (v : StampedState). IsNext v.types (reverse v.journal) (Two c.args.first c.args.second)) (sym c.self.view_is) c.requires.next

pub overflow_add-self : goal.overflow_add-self
overflow_add-self c =
    let counted = count_by-le-length (λ (x : ClusterTimestamp). x.level == levels_of (clustering_of c.merge_clusters.new.levels) + 1) (c.args.first_stamp ∷ []) in
    let also = count_by-le-length (λ (x : ClusterTimestamp). x.level == levels_of (clustering_of c.merge_clusters.new.levels) + 1) (c.args.second_stamp ∷ []) in
    let is = c.full_of.ensures in
    let other = c.full_of-2.ensures in
    omega (arith, counted, also, is, other)

pub overflow_add-self-2 : goal.overflow_add-self-2
overflow_add-self-2 c =
    let s : StampedState = record { types = c.self.inside.delivery.types; journal = c.self.inside.delivery.journal; levels = c.self.inside.levels; stamps = c.self.inside.stamps; full = c.self.inside.full } in
    let few = full_few s c.self.invariant in
    let counted = count_by-le-length (λ (x : ClusterTimestamp). x.level == levels_of (clustering_of c.merge_clusters.new.levels) + 1) (c.args.first_stamp ∷ []) in
    let also = count_by-le-length (λ (x : ClusterTimestamp). x.level == levels_of (clustering_of c.merge_clusters.new.levels) + 1) (c.args.second_stamp ∷ []) in
    let is = c.full_of.ensures in
    let other = c.full_of-2.ensures in
    omega (arith, few, counted, also, is, other)

pub add_two-requires-clause-first : goal.add_two-requires-clause-first
add_two-requires-clause-first c =
    let s : StampedState = record { types = c.self.inside.delivery.types; journal = c.self.inside.delivery.journal; levels = c.self.inside.levels; stamps = c.self.inside.stamps; full = c.self.inside.full } in
    let next = subst (λ (v : StampedState). IsNext v.types (reverse v.journal) (Two c.args.first c.args.second)) (sym c.self.view_is) c.requires.next in
    let on = on_first s c.self.invariant c.args.first c.args.second next in
    let traces = c.self.invariant.has_stamps.traces in
    omega (arith, on, traces)

pub add_two-requires-clause-next : goal.add_two-requires-clause-next
add_two-requires-clause-next c =
    let s : StampedState = record { types = c.self.inside.delivery.types; journal = c.self.inside.delivery.journal; levels = c.self.inside.levels; stamps = c.self.inside.stamps; full = c.self.inside.full } in
    let next = subst (λ (v : StampedState). IsNext v.types (reverse v.journal) (Two c.args.first c.args.second)) (sym c.self.view_is) c.requires.next in
    number_first s c.self.invariant c.args.first c.args.second next

pub add_two-requires-clause-most : goal.add_two-requires-clause-most
add_two-requires-clause-most c =
    let s : StampedState = record { types = c.self.inside.delivery.types; journal = c.self.inside.delivery.journal; levels = c.self.inside.levels; stamps = c.self.inside.stamps; full = c.self.inside.full } in
    let next = subst (λ (v : StampedState). IsNext v.types (reverse v.journal) (Two c.args.first c.args.second)) (sym c.self.view_is) c.requires.next in
    most_first s c.self.invariant c.args.first c.args.second next

pub add_two-requires-clause-second : goal.add_two-requires-clause-second
add_two-requires-clause-second c =
    let s : StampedState = record { types = c.self.inside.delivery.types; journal = c.self.inside.delivery.journal; levels = c.self.inside.levels; stamps = c.self.inside.stamps; full = c.self.inside.full } in
    let next = subst (λ (v : StampedState). IsNext v.types (reverse v.journal) (Two c.args.first c.args.second)) (sym c.self.view_is) c.requires.next in
    let on = on_second s c.self.invariant c.args.first c.args.second next in
    let traces = c.self.invariant.has_stamps.traces in
    omega (arith, on, traces)

pub add_two-requires-clause-second_next : goal.add_two-requires-clause-second_next
add_two-requires-clause-second_next c =
    let s : StampedState = record { types = c.self.inside.delivery.types; journal = c.self.inside.delivery.journal; levels = c.self.inside.levels; stamps = c.self.inside.stamps; full = c.self.inside.full } in
    let next = subst (λ (v : StampedState). IsNext v.types (reverse v.journal) (Two c.args.first c.args.second)) (sym c.self.view_is) c.requires.next in
    number_second s c.self.invariant c.args.first c.args.second next c.args.first_stamp

pub add_two-requires-clause-second_most : goal.add_two-requires-clause-second_most
add_two-requires-clause-second_most c =
    let s : StampedState = record { types = c.self.inside.delivery.types; journal = c.self.inside.delivery.journal; levels = c.self.inside.levels; stamps = c.self.inside.stamps; full = c.self.inside.full } in
    let next = subst (λ (v : StampedState). IsNext v.types (reverse v.journal) (Two c.args.first c.args.second)) (sym c.self.view_is) c.requires.next in
    most_second s c.self.invariant c.args.first c.args.second next

pub invariant_of-self : goal.invariant_of-self
invariant_of-self c =
    let old = c.self.inside.delivery in
    let s : StampedState = record { types = c.self.inside.delivery.types; journal = c.self.inside.delivery.journal; levels = c.self.inside.levels; stamps = c.self.inside.stamps; full = c.self.inside.full } in
    let next = subst (λ (v : StampedState). IsNext v.types (reverse v.journal) (Two c.args.first c.args.second)) (sym c.self.view_is) c.requires.next in
    let found = two_found s.types s.journal c.args.first c.args.second next in
    let merges = subst (λ (v : StampedState). (a b : Event) → event_of (came_by v.journal) c.args.first ≡ Some a → event_of (came_by v.journal) c.args.second ≡ Some b → IsMergeOf v.levels (together a b) (Some c.args.merge)) (sym c.self.view_is) c.requires.merge found.0 found.1 found.2 found.3 in
    let its = subst (λ (v : StampedState). (a b : Event) → event_of (came_by v.journal) c.args.first ≡ Some a → event_of (came_by v.journal) c.args.second ≡ Some b → IsStamp v.types (clustering_of v.levels) (together a b ∷ deliveries_by v.journal) a c.args.first_stamp × IsStamp v.types (clustering_of v.levels) (together a b ∷ deliveries_by v.journal) b c.args.second_stamp) (sym c.self.view_is) c.requires.stamps found.0 found.1 found.2 found.3 in
    let gone : TypedJournal = record { types = old.types; journal = old.journal ++ Pair c.args.first c.args.second ∷ [] } in
    let is : c.deliver_block.new.self ≡ gone = c.deliver_block.ensures in
    let counted : (stamp : ClusterTimestamp) → count_by (λ (x : ClusterTimestamp). x.level == levels_of (clustering_of c.merge_clusters.new.levels) + 1) (stamp ∷ []) ≡ count_by (λ (x : ClusterTimestamp). x.level == levels_of (clustering_of s.levels) + 1) (stamp ∷ []) =
    λ stamp. ap (λ (cl : Clustering). count_by (λ (x : ClusterTimestamp). x.level == levels_of cl + 1) (stamp ∷ [])) c.merge_clusters.ensures.made_with in
    let one = c.full_of.ensures ∙ counted c.args.first_stamp in
    let other = c.full_of-2.ensures ∙ counted c.args.second_stamp in
    subst (λ (d : TypedJournal). IsStamped (record { types = d.types; journal = d.journal; levels = c.merge_clusters.new.levels; stamps = c.add_two.new.self; full = c.self.inside.full + (c.full_of.result + c.full_of-2.result) })) (sym is)
    (stamped_two s c.self.invariant c.args.first c.args.second next c.stamp_stays.ensures c.merge_clusters.new.levels c.add_two.new.self (c.self.inside.full + (c.full_of.result + c.full_of-2.result)) c.args.first_stamp c.args.second_stamp
    c.merge_clusters.ensures.made_with
    (subst (StandsAfter c.merge_clusters.new.levels) (communications_with (together found.0 found.1) (deliveries_by s.journal) (Some c.args.merge) merges.joins)
    (c.merge_clusters.ensures.stands (communications (deliveries_by s.journal)) c.self.invariant.stands))
    its.0
    its.1
    (c.add_two.ensures.lists ∙ ap (with_item (with_item s.stamps.lists c.args.first.trace c.args.first_stamp) c.args.second.trace) (sym c.requires.same))
    (omega (arith, one, other)))

pub returns-clause-journal : goal.returns-clause-journal
returns-clause-journal c =
    ap (λ (d : TypedJournal). d.journal) c.deliver_block.ensures
    ∙ ap (λ (v : StampedState). v.journal ++ Pair c.args.first c.args.second ∷ []) c.self.view_is
