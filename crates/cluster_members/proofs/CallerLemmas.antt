-- The lemmas that the proofs of other crates cite.
use Rattle.std.proofs.Common.{◌≡◌, ℕ, List, ◌∷◌, true, cond, ap}
use Rattle.std.specs.Prelude.{filter, reverse}
use Rattle.causal_base.specs.declared.event_id.EventId.{EventId}
use Rattle.causal_base.specs.Clusters.{Clustering, communications, numbers_below, partition_after}
use Rattle.causal_base.specs.History.{EventBlock}
use Rattle.causal_base.specs.Stamps.{delivers, history_of, members_of, newest_level}
use Rattle.cluster_members.specs.Kept.{AreKept, KeptLists, cluster_of}
pub use Rattle.cluster_members.proofs.ClusterLists.{traces_that-has}

-- what is kept stays so with a communication more
pub kept_grows : (clustering : Clustering) (so_far : List (ℕ × ℕ)) (more : ℕ × ℕ) (kept : KeptLists) → AreKept clustering so_far kept → AreKept clustering (more ∷ so_far) kept
kept_grows clustering so_far more kept are = record {
  levels = are.levels;
  traces = are.traces;
  each = λ level trace list low its.
      let earlier = are.each level trace list low its in
      record {
        newer = more ∷ earlier.newer;
        older = earlier.older;
        up_to_now = ap (λ (xs : List (ℕ × ℕ)). more ∷ xs) earlier.up_to_now;
        are = earlier.are;
      };
}

-- the members of an event that was delivered last are the traces of a cluster
pub members_are : (clustering : Clustering) (delivery : EventBlock) (past : List EventBlock) (id : EventId) → delivers id delivery ≡ true
    → members_of clustering (delivery ∷ past) id ≡ cluster_of clustering (communications (delivery ∷ past)) (newest_level clustering (delivery ∷ past)) id.trace
members_are clustering delivery past id its =
    ap (λ b. let history = cond b (delivery ∷ past) (history_of id past) in
    filter (λ trace. partition_after clustering history (newest_level clustering history) id.trace trace) (reverse (numbers_below clustering.traces))) its
