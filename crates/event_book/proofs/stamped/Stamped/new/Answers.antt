use Rattle.std.proofs.Common.{◌≡◌, ◌-◌, ℕ, zero, suc, List, [], length, refl, sym, ◌∙◌, ap, subst, arith}
use Rattle.std.specs.Prelude.{replicate}
use Rattle.std.specs.List.{sum_by}
use Rattle.std.proofs.lemmas.List.Sums.{sum_by-cons}
use Rattle.std.proofs.lemmas.List.{length-replicate}
use Rattle.std.proofs.lemmas.Option.{slice_get_within}
use Rattle.causal_base.specs.Clusters.{Clustering}
use Rattle.causal_base.specs.Stamps.{ClusterTimestamp}
use Rattle.causal_base.specs.Types.{TypeTable}
use Rattle.causal_base.proofs.CallerLemmas.{Contains-nil}
use Rattle.cluster_levels.specs.Levels.{clustering_of}
use Rattle.delivery.specs.Deliveries.{TypedJournal}
use Rattle.projected_stamp.specs.StampLists.{IsAt, parts_of}
use Rattle.shared_list.specs.Traces.{list_of}
use Rattle.shared_list.proofs.CallerLemmas.{list_of-replicate}
use Rattle.event_book.specs.Stamping.{AreStampsAmong, IsStamped}
use Rattle.event_book.proofs.stamped.Stamped.new.Goals as goal

abbrev no_lists : ℕ → List (List ClusterTimestamp)
no_lists traces = replicate traces []

parts_none : (traces : ℕ) → parts_of (replicate traces (let none : List ClusterTimestamp = [] in none)) ≡ 0
parts_none zero = refl
parts_none (suc traces) =
    let one = sum_by-cons (λ (stamps : List ClusterTimestamp). sum_by (λ (stamp : ClusterTimestamp). length stamp.members) stamps) [] (replicate traces []) in
    let rest = parts_none traces in
    omega (arith, one, rest)

stamps_none : (types : TypeTable) (clustering : Clustering) (lists : List (List ClusterTimestamp)) → lists ≡ replicate types.traces [] → AreStampsAmong types clustering [] [] lists
stamps_none types clustering lists is = record {
  traces = ap (λ (l : List (List ClusterTimestamp)). length l) is ∙ length-replicate types.traces [];
  each = λ e inside. absurd (Contains-nil e inside);
  only = λ id stamp at.
      let none : IsAt [] id.number stamp = subst (λ (l : List ClusterTimestamp). IsAt l id.number stamp) (ap (λ (l : List (List ClusterTimestamp)). list_of l id.trace) is ∙ list_of-replicate types.traces id.trace) at in
      let within = slice_get_within [] (id.number - 1) stamp none.stands in
      absurd (omega (arith, within));
  counts = λ trace. ap (λ (l : List ClusterTimestamp). length l) (ap (λ (l : List (List ClusterTimestamp)). list_of l trace) is ∙ list_of-replicate types.traces trace);
}

pub invariant_of-result : goal.invariant_of-result
invariant_of-result c =
    let empty : TypedJournal = record { types = c.args.types; journal = [] } in
    subst (λ (d : TypedJournal). IsStamped (record { types = d.types; journal = d.journal; levels = c.args.levels; stamps = c.in_ok-stamps.stamps; full = 0 })) (sym c.in_ok-new.ensures) (record {
      table = c.traces.ensures.table;
      legal = tt;
      few = omega arith;
      traces = c.requires.traces;
      sizes = c.traces-traces.ensures.levels.sizes;
      stands = c.requires.stands;
      has_stamps = stamps_none c.args.types (clustering_of c.args.levels) c.in_ok-stamps.stamps.lists (c.in_ok-stamps.ensures.lists ∙ ap (λ (n : ℕ). no_lists n) c.traces.ensures.number);
      parts_are = ap parts_of (c.in_ok-stamps.ensures.lists) ∙ parts_none c.traces.result;
      full_is = refl;
    })
