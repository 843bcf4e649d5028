use Rattle.std.proofs.Common.{ℕ, List, subst, nat_cmp}
use Rattle.std.specs.Prelude.{Contains, Err}
use Rattle.std.specs.List.Sorted.{IsBinarySearchResult}
use Rattle.causal_base.specs.Stamps.{ClusterTimestamp}
use Rattle.projected_stamp.proofs.Searches.{not_found}
use Rattle.projected_stamp.proofs.stamp.Stamp.part.Goals as goal

pub returns-in-Err-clause-none : goal.returns-in-Err-clause-none
returns-in-Err-clause-none c =
    let searched = subst (λ (l : List ℕ). IsBinarySearchResult (λ y. nat_cmp y c.args.trace) l (Err c.in-Err.field-0)) c.traces.ensures.value c.in-Err.ensures.position in
    subst (λ (stamp : ClusterTimestamp). Contains stamp.members c.args.trace → ⊥) c.self.view_is
    (not_found c.self.inside.members.now c.args.trace c.in-Err.field-0 c.traces.ensures.rise searched)
