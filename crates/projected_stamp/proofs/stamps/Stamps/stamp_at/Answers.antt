use Rattle.std.proofs.Common.{◌-◌, ap, sym, subst, arith, length}
use Rattle.causal_base.specs.Stamps.{ClusterTimestamp}
use Rattle.std.proofs.lemmas.Option.{get_or_from_slice_get, slice_get_within}
use Rattle.shared_list.specs.Traces.{list_of}
use Rattle.projected_stamp.specs.declared.above.Kept.{Kept}
use Rattle.projected_stamp.specs.Runs.{HasRun}
use Rattle.projected_stamp.specs.StampLists.{StampLists, IsAt}
use Rattle.projected_stamp.proofs.Empties.{kept_of}
use Rattle.projected_stamp.proofs.StampsOf.{found_at, none_at}
use Rattle.projected_stamp.proofs.stamps.Stamps.stamp_at.Goals as goal

pub stamp-requires : goal.stamp-requires
stamp-requires c =
    let blocks = c.self.inside.numbers.blocks in
    let kept = list_of c.self.inside.kept.lists c.args.trace in
    let its = kept_of blocks c.self.inside.kept.lists c.self.invariant.0 c.args.trace in
    let at = c.args.number - 1 in
    let k = c.in-Some.kept.now in
    subst (λ (k : Kept). HasRun blocks k.run (length k.members)) (get_or_from_slice_get kept at k k (sym c.in-Some.ensures)) (its.stand at k (slice_get_within kept at k (sym c.in-Some.ensures)))

pub returns-in-Some-clause-some : goal.returns-in-Some-clause-some
returns-in-Some-clause-some c =
    subst (λ (s : ClusterTimestamp). IsAt (list_of c.args.self.now.lists c.args.trace) c.args.number s) (sym c.stamp.ensures)
    (found_at c.self.inside.numbers.blocks c.self.inside.kept.lists c.args.self.now (ap (λ (v : StampLists). v.lists) c.self.view_is) c.args.trace c.args.number c.in-Some.kept.now (omega (arith, c.if-number-eq0.false)) (sym c.in-Some.ensures))

pub returns-in-None-clause-none : goal.returns-in-None-clause-none
returns-in-None-clause-none c = none_at c.self.inside.numbers.blocks c.self.inside.kept.lists c.args.self.now (ap (λ (v : StampLists). v.lists) c.self.view_is) c.args.trace c.args.number (sym c.in-None.ensures)
