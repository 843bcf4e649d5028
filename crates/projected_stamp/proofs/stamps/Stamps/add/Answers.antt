use Rattle.std.proofs.Common.{◌≤◌, ◌+◌, ◌∙◌, sym, ap, subst, arith, length, map}
use Rattle.std.specs.Prelude.{All, slice_index}
use Rattle.causal_base.specs.declared.limits.TheConstants.{MOST_TRACES}
use Rattle.shared_list.proofs.CallerLemmas.{length-with_item}
use Rattle.shared_list.specs.Traces.{list_of}
use Rattle.projected_stamp.specs.Above.{next_kept, stamps_of, IsKept}
use Rattle.projected_stamp.specs.Runs.{spares_within}
use Rattle.projected_stamp.specs.StampLists.{StampLists, parts_of}
use Rattle.projected_stamp.proofs.Additions.{all_next, stamps_next, parts-with_item, parts-few}
use Rattle.projected_stamp.proofs.Projections.{as_many, run_is}
use Rattle.projected_stamp.proofs.Rooms.{slice_index-within, spares-fall}
use Rattle.projected_stamp.proofs.stamps.Stamps.add.Goals as goal

pub overflow_add-self : goal.overflow_add-self
overflow_add-self c =
    let few = parts-few c.self.inside.numbers.blocks c.self.inside.kept.lists c.self.invariant.0 c.self.invariant.1 in
    omega (arith, few, c.self.invariant.2, c.from.ensures, c.size.ensures.few)

pub add-run-requires-clause-room : goal.add-run-requires-clause-room
add-run-requires-clause-room c =
    let room = subst (λ (v : StampLists). 1 ≤ slice_index v.spare c.args.id.trace) (sym c.self.view_is) c.requires.room in
    let is = slice_index-within c.self.inside.numbers.room c.self.inside.kept.spare c.args.id.trace in
    omega (arith, room, is)

pub invariant_of-self : goal.invariant_of-self
invariant_of-self c =
    let blocks = c.self.inside.numbers.blocks in
    let later = c.add-run.new.self.blocks in
    let lists = c.self.inside.kept.lists in
    let trace = c.args.id.trace in
    let seen = ap (λ (v : StampLists). v.lists) c.self.view_is in
    let many = as_many c.stamp.inside.level c.stamp.inside.members c.stamp.inside.clock.now c.args.stamp c.stamp.view_is in
    let is = run_is c.stamp.inside.level c.stamp.inside.members c.stamp.inside.clock.now c.args.stamp c.stamp.view_is later c.add-run.result c.traces.result.now c.traces.ensures.value c.add-run.ensures.run in
    let small : length c.args.stamp.members ≤ MOST_TRACES = omega (arith, c.size.ensures.size, c.size.ensures.few) in
    let within = c.requires.trace in
    let parts = parts-with_item c.args.self.now.lists trace c.args.stamp within in
    let before = c.self.invariant.2 ∙ ap parts_of seen in
    let kept = all_next blocks later c.add-run.ensures.stay lists c.self.invariant.0 c.args.self.now seen trace c.args.id.number c.requires.next c.requires.most c.args.stamp c.add-run.result is many small in
    let stamps = ap (map (stamps_of later)) c.keep.ensures.lists ∙ stamps_next blocks later c.add-run.ensures.stay lists c.self.invariant.0 c.args.self.now seen trace c.args.id.number c.requires.next c.requires.most c.args.stamp c.add-run.result is many small in (
      subst (All (IsKept later)) (sym c.keep.ensures.lists) kept,
      (let same = length-with_item lists trace (next_kept (list_of lists trace) c.args.stamp c.add-run.result) in let pushed = ap length c.keep.ensures.lists in omega (arith, same, pushed, c.self.invariant.1)),
      (let all = ap parts_of stamps in omega (arith, all, parts, before, c.from.ensures, c.size.ensures.size)),
    )

pub returns-clause-lists : goal.returns-clause-lists
returns-clause-lists c =
    let later = c.add-run.new.self.blocks in
    let seen = ap (λ (v : StampLists). v.lists) c.self.view_is in
    let many = as_many c.stamp.inside.level c.stamp.inside.members c.stamp.inside.clock.now c.args.stamp c.stamp.view_is in
    let is = run_is c.stamp.inside.level c.stamp.inside.members c.stamp.inside.clock.now c.args.stamp c.stamp.view_is later c.add-run.result c.traces.result.now c.traces.ensures.value c.add-run.ensures.run in
    let small : length c.args.stamp.members ≤ MOST_TRACES = omega (arith, c.size.ensures.size, c.size.ensures.few) in
    ap (map (stamps_of later)) c.keep.ensures.lists
    ∙ stamps_next c.self.inside.numbers.blocks later c.add-run.ensures.stay c.self.inside.kept.lists c.self.invariant.0 c.args.self.now seen c.args.id.trace c.args.id.number c.requires.next c.requires.most c.args.stamp c.add-run.result is many small

pub returns-clause-spare : goal.returns-clause-spare
returns-clause-spare c k =
    subst (λ (v : StampLists). slice_index v.spare k ≤ slice_index (spares_within c.add-run.new.self.room c.keep.new.kept.spare) k + 1) c.self.view_is
    (spares-fall c.self.inside.numbers.room c.add-run.new.self.room c.self.inside.kept.spare c.keep.new.kept.spare 1 (omega (arith, c.add-run.ensures.room)) c.keep.ensures.spare k)
