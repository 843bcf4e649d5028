use Rattle.std.proofs.Common.{◌≡◌, ◌+◌, ℕ, [], ◌∷◌, ◌++◌, reverse, sym, ◌∙◌, ap, subst, arith, Some}
use Rattle.std.specs.Prelude.{◌==◌, count_by}
use Rattle.std.proofs.lemmas.List.Sums.{count_by-le-length}
use Rattle.causal_base.specs.declared.block.Block.TheVariants.{One}
use Rattle.causal_base.specs.declared.entry.Entry.TheVariants.{Gone}
use Rattle.causal_base.specs.declared.event.Event.{Event}
use Rattle.causal_base.specs.Clusters.{Clustering, communications, levels_of}
use Rattle.causal_base.specs.History.{alone}
use Rattle.causal_base.specs.Journal.{came_by, deliveries_by}
use Rattle.causal_base.specs.Past.{event_of, IsNext}
use Rattle.causal_base.specs.Stamps.{ClusterTimestamp, IsStamp}
use Rattle.cluster_levels.specs.Levels.{StandsAfter, clustering_of}
use Rattle.delivery.specs.Deliveries.{TypedJournal}
use Rattle.event_book.specs.Stamping.{IsMergeOf, IsStamped, StampedState}
use Rattle.event_book.proofs.Blocks.{one_found}
use Rattle.event_book.proofs.Going.{communications_with, full_few, most_one, number_one, on_one, stamped_one}
use Rattle.event_book.proofs.stamped.Stamped.deliver_one.Goals as goal

pub merge_clusters-requires-clause-stands : goal.merge_clusters-requires-clause-stands
merge_clusters-requires-clause-stands c = (communications (deliveries_by c.self.inside.delivery.journal), c.self.invariant.stands)

pub merge_clusters-requires-clause-planned : goal.merge_clusters-requires-clause-planned
merge_clusters-requires-clause-planned c =
    let s : StampedState = record { types = c.self.inside.delivery.types; journal = c.self.inside.delivery.journal; levels = c.self.inside.levels; stamps = c.self.inside.stamps; full = c.self.inside.full } in
    let next = subst (λ (v : StampedState). IsNext v.types (reverse v.journal) (One c.args.id)) (sym c.self.view_is) c.requires.next in
    let found = one_found s.types s.journal c.args.id next in
    (subst (λ (v : StampedState). (e : Event) → event_of (came_by v.journal) c.args.id ≡ Some e → IsMergeOf v.levels (alone e) c.args.merge) (sym c.self.view_is) c.requires.merge found.0 found.1).planned

pub deliver_block-requires : goal.deliver_block-requires
deliver_block-requires c =
    subst (λ (v : StampedState). IsNext v.types (reverse v.journal) (One c.args.id)) (sym c.self.view_is) c.requires.next

pub overflow_add-self : goal.overflow_add-self
overflow_add-self c =
    let s : StampedState = record { types = c.self.inside.delivery.types; journal = c.self.inside.delivery.journal; levels = c.self.inside.levels; stamps = c.self.inside.stamps; full = c.self.inside.full } in
    let few = full_few s c.self.invariant in
    let counted = count_by-le-length (λ (x : ClusterTimestamp). x.level == levels_of (clustering_of c.merge_clusters.new.levels) + 1) (c.args.stamp ∷ []) in
    let is = c.full_of.ensures in
    omega (arith, few, counted, is)

pub add-requires-clause-trace : goal.add-requires-clause-trace
add-requires-clause-trace c =
    let s : StampedState = record { types = c.self.inside.delivery.types; journal = c.self.inside.delivery.journal; levels = c.self.inside.levels; stamps = c.self.inside.stamps; full = c.self.inside.full } in
    let next = subst (λ (v : StampedState). IsNext v.types (reverse v.journal) (One c.args.id)) (sym c.self.view_is) c.requires.next in
    let on = on_one s c.self.invariant c.args.id next in
    let traces = c.self.invariant.has_stamps.traces in
    omega (arith, on, traces)

pub add-requires-clause-next : goal.add-requires-clause-next
add-requires-clause-next c =
    let s : StampedState = record { types = c.self.inside.delivery.types; journal = c.self.inside.delivery.journal; levels = c.self.inside.levels; stamps = c.self.inside.stamps; full = c.self.inside.full } in
    number_one s c.self.invariant c.args.id (subst (λ (v : StampedState). IsNext v.types (reverse v.journal) (One c.args.id)) (sym c.self.view_is) c.requires.next)

pub add-requires-clause-most : goal.add-requires-clause-most
add-requires-clause-most c =
    let s : StampedState = record { types = c.self.inside.delivery.types; journal = c.self.inside.delivery.journal; levels = c.self.inside.levels; stamps = c.self.inside.stamps; full = c.self.inside.full } in
    most_one s c.self.invariant c.args.id (subst (λ (v : StampedState). IsNext v.types (reverse v.journal) (One c.args.id)) (sym c.self.view_is) c.requires.next)

pub invariant_of-self : goal.invariant_of-self
invariant_of-self c =
    let old = c.self.inside.delivery in
    let s : StampedState = record { types = old.types; journal = old.journal; levels = c.self.inside.levels; stamps = c.self.inside.stamps; full = c.self.inside.full } in
    let next = subst (λ (v : StampedState). IsNext v.types (reverse v.journal) (One c.args.id)) (sym c.self.view_is) c.requires.next in
    let found = one_found s.types s.journal c.args.id next in
    let merges = subst (λ (v : StampedState). (e : Event) → event_of (came_by v.journal) c.args.id ≡ Some e → IsMergeOf v.levels (alone e) c.args.merge) (sym c.self.view_is) c.requires.merge found.0 found.1 in
    let its = subst (λ (v : StampedState). (e : Event) → event_of (came_by v.journal) c.args.id ≡ Some e → IsStamp v.types (clustering_of v.levels) (alone e ∷ deliveries_by v.journal) e c.args.stamp) (sym c.self.view_is) c.requires.stamp found.0 found.1 in
    let gone : TypedJournal = record { types = old.types; journal = old.journal ++ Gone c.args.id ∷ [] } in
    let is : c.deliver_block.new.self ≡ gone = c.deliver_block.ensures in
    subst (λ (d : TypedJournal). IsStamped (record { types = d.types; journal = d.journal; levels = c.merge_clusters.new.levels; stamps = c.add.new.self; full = c.self.inside.full + c.full_of.result })) (sym is)
    (stamped_one s c.self.invariant c.args.id next c.stamp_stays.ensures c.merge_clusters.new.levels c.add.new.self (c.self.inside.full + c.full_of.result) c.args.stamp
    c.merge_clusters.ensures.made_with
    (subst (StandsAfter c.merge_clusters.new.levels) (communications_with (alone found.0) (deliveries_by s.journal) c.args.merge merges.joins)
    (c.merge_clusters.ensures.stands (communications (deliveries_by s.journal)) c.self.invariant.stands))
    its
    c.add.ensures.lists
    (ap (λ (n : ℕ). c.self.inside.full + n) (c.full_of.ensures ∙ ap (λ (cl : Clustering). count_by (λ (x : ClusterTimestamp). x.level == levels_of cl + 1) (c.args.stamp ∷ [])) c.merge_clusters.ensures.made_with)))

pub returns-clause-journal : goal.returns-clause-journal
returns-clause-journal c =
    ap (λ (d : TypedJournal). d.journal) c.deliver_block.ensures
    ∙ ap (λ (v : StampedState). v.journal ++ Gone c.args.id ∷ []) c.self.view_is
