use Rattle.std.proofs.Common.{◌≡◌, ◌≤◌, ℕ, List, ◌∙◌, sym, ap, subst, arith, length, map}
use Rattle.std.specs.Prelude.{All, replicate}
use Rattle.causal_base.specs.declared.limits.TheConstants.{MOST_TRACES}
use Rattle.std.proofs.lemmas.List.{length-replicate}
use Rattle.projected_stamp.specs.declared.above.Kept.{Kept}
use Rattle.projected_stamp.specs.Above.{stamps_of, IsKept}
use Rattle.projected_stamp.specs.Runs.{spares_within}
use Rattle.projected_stamp.specs.StampLists.{parts_of}
use Rattle.projected_stamp.proofs.Empties.{none_kept, stamps-none, spares-no_runs, IsKept-all_none, parts-none}
use Rattle.projected_stamp.proofs.stamps.Stamps.new.Goals as goal

pub invariant_of-result : goal.invariant_of-result
invariant_of-result c =
    let is = sym c.in_ok-new.ensures.lists in
    let blocks = c.new-2.result.blocks in (
      subst (All (IsKept blocks)) is (IsKept-all_none blocks c.args.traces),
      subst (λ (l : List (List Kept)). length l ≤ MOST_TRACES) is (let count = length-replicate c.args.traces none_kept in omega (arith, count, c.requires)),
      subst (λ (l : List (List Kept)). 0 ≡ parts_of (map (stamps_of blocks) l)) is (parts-none blocks c.args.traces),
    )

pub returns-clause-lists : goal.returns-clause-lists
returns-clause-lists c = ap (map (stamps_of c.new-2.result.blocks)) c.in_ok-new.ensures.lists ∙ stamps-none c.new-2.result.blocks c.args.traces

pub returns-clause-spare : goal.returns-clause-spare
returns-clause-spare c =
    ap (λ (room : ℕ). spares_within room c.in_ok-new.field-0.spare) c.new-2.ensures.room
    ∙ (spares-no_runs c.in_ok-new.field-0.spare
    ∙ (ap (λ (spare : List ℕ). replicate (length spare) 0) c.in_ok-new.ensures.spare ∙ ap (λ (n : ℕ). replicate n 0) (length-replicate c.args.traces 0)))
