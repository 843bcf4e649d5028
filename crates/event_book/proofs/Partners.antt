-- Partners that are Next, as they are found and planned.
use Rattle.std.proofs.Common.{◌≡◌, ℕ, List, [], ◌∷◌, reverse, sym, ◌∙◌, ap, subst, Some}
use Rattle.std.specs.Prelude.{Contains}
use Rattle.std.specs.Option.{option_map}
use Rattle.causal_base.specs.declared.block.Block.TheVariants.{Two}
use Rattle.causal_base.specs.declared.event.Event.{Event}
use Rattle.causal_base.specs.declared.event_id.EventId.{EventId}
use Rattle.causal_base.specs.Clocks.{HasClocks}
use Rattle.causal_base.specs.Clusters.{communications, partition, traces_joined}
use Rattle.causal_base.specs.History.{together, all_events, IsCausal}
use Rattle.causal_base.specs.Journal.{came_by, deliveries_by}
use Rattle.causal_base.specs.Past.{event_of, IsNext}
use Rattle.causal_base.specs.Stamps.{IsStamp, joined_level}
use Rattle.causal_base.proofs.CallerLemmas.{Contains-here, Contains-there}
use Rattle.cluster_levels.specs.Levels.{clustering_of}
use Rattle.cluster_members.specs.Kept.{cluster_of}
use Rattle.cluster_merge.specs.declared.merge.Merge.{Merge}
use Rattle.projected_stamp.specs.Parts.{projected}
use Rattle.event_book.specs.Stamping.{IsStamped, StampedState, traces_of, with_merge}
use Rattle.event_book.proofs.Blocks.{two_found}
use Rattle.event_book.proofs.Going.{causal_two}
use Rattle.event_book.proofs.AtHand.{delivers_first, delivers_second, found_is, planned_stamp}

module _ (s : StampedState) (is : IsStamped s) (first second : EventId) (next : IsNext s.types (reverse s.journal) (Two first second))
    (a b : Event) (has_a : Contains (came_by s.journal) a × (a.id ≡ first)) (has_b : Contains (came_by s.journal) b × (b.id ≡ second)) where
  pub found_first : (x : Event) → event_of (came_by s.journal) first ≡ Some x → a ≡ x
  found_first x found = found_is s.types s.journal is.legal first x a found has_a.0 has_a.1

  pub found_second : (x : Event) → event_of (came_by s.journal) second ≡ Some x → b ≡ x
  found_second x found = found_is s.types s.journal is.legal second x b found has_b.0 has_b.1

  is_first : a ≡ (two_found s.types s.journal first second next).0
  is_first = let the = two_found s.types s.journal first second next in found_first the.0 the.2

  is_second : b ≡ (two_found s.types s.journal first second next).1
  is_second = let the = two_found s.types s.journal first second next in found_second the.1 the.3

  pub is_both : next.enabled.delivery ≡ together a b
  is_both = (two_found s.types s.journal first second next).4 ∙ (ap (λ (x : Event). together x (two_found s.types s.journal first second next).1) (sym is_first) ∙ ap (together a) (sym is_second))

  pub causal_both : IsCausal s.types (together a b ∷ deliveries_by s.journal)
  causal_both =
      subst (λ (x : Event). IsCausal s.types (together x b ∷ deliveries_by s.journal)) (sym is_first)
      (subst (λ (x : Event). IsCausal s.types (together (two_found s.types s.journal first second next).0 x ∷ deliveries_by s.journal)) (sym is_second) (causal_two s is first second next))

  module _ (m : Merge) (p : m.p ≡ first.trace) (q : m.q ≡ second.trace) where
    pub joins_both : traces_joined (together a b) ≡ option_map traces_of (Some m)
    joins_both =
        ap (λ (i : EventId). Some (i.trace, b.id.trace)) has_a.1
        ∙ (ap (λ (i : EventId). Some (first.trace, i.trace)) has_b.1
        ∙ sym (ap (λ (n : ℕ). Some (n, m.q)) p ∙ ap (λ (n : ℕ). Some (first.trace, n)) q))

    module _ (level : ℕ) (members clock : List ℕ)
        (level_is : level ≡ joined_level (clustering_of s.levels) (partition (clustering_of s.levels) (with_merge (Some m) (communications (deliveries_by s.journal)))) (option_map traces_of (Some m))) where
      pub stamp_first : members ≡ cluster_of (clustering_of s.levels) (with_merge (Some m) (communications (deliveries_by s.journal))) level first.trace
          → HasClocks s.types (all_events (together a b ∷ deliveries_by s.journal)) a.id clock
          → IsStamp s.types (clustering_of s.levels) (together a b ∷ deliveries_by s.journal) a (projected level members clock)
      stamp_first are has =
          planned_stamp s is (together a b) (Some m) joins_both causal_both a (Contains-there b (a ∷ []) a (Contains-here a [])) (delivers_first a b) level members clock level_is
          (are ∙ ap (λ (i : EventId). cluster_of (clustering_of s.levels) (with_merge (Some m) (communications (deliveries_by s.journal))) level i.trace) (sym has_a.1)) has

      pub stamp_second : members ≡ cluster_of (clustering_of s.levels) (with_merge (Some m) (communications (deliveries_by s.journal))) level m.q
          → HasClocks s.types (all_events (together a b ∷ deliveries_by s.journal)) b.id clock
          → IsStamp s.types (clustering_of s.levels) (together a b ∷ deliveries_by s.journal) b (projected level members clock)
      stamp_second are has =
          planned_stamp s is (together a b) (Some m) joins_both causal_both b (Contains-here b (a ∷ [])) (delivers_second a b) level members clock level_is
          (are ∙ (ap (λ (n : ℕ). cluster_of (clustering_of s.levels) (with_merge (Some m) (communications (deliveries_by s.journal))) level n) q
          ∙ ap (λ (i : EventId). cluster_of (clustering_of s.levels) (with_merge (Some m) (communications (deliveries_by s.journal))) level i.trace) (sym has_b.1))) has
