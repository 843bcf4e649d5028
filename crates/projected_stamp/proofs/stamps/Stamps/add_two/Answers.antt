use Rattle.std.proofs.Common.{◌≡◌, ◌≤◌, ◌+◌, List, ◌∙◌, sym, ap, subst, arith, length, map}
use Rattle.std.specs.Prelude.{All, slice_index}
use Rattle.causal_base.specs.declared.limits.TheConstants.{MOST_TRACES}
use Rattle.causal_base.specs.Stamps.{ClusterTimestamp}
use Rattle.shared_list.proofs.CallerLemmas.{length-with_item}
use Rattle.shared_list.specs.Traces.{list_of, with_item}
use Rattle.projected_stamp.specs.declared.above.Kept.{Kept}
use Rattle.projected_stamp.specs.Above.{next_kept, stamps_of, IsKept}
use Rattle.projected_stamp.specs.Runs.{spares_within}
use Rattle.projected_stamp.specs.StampLists.{StampLists, parts_of}
use Rattle.projected_stamp.proofs.Additions.{all_next, all_two, stamps_two, parts-with_item, parts-few}
use Rattle.projected_stamp.proofs.Empties.{kept_of}
use Rattle.projected_stamp.proofs.Projections.{as_many, run_is}
use Rattle.projected_stamp.proofs.Rooms.{slice_index-within, spares-fall}
use Rattle.projected_stamp.proofs.stamps.Stamps.add_two.Goals as goal

pub overflow_add-self-2 : goal.overflow_add-self-2
overflow_add-self-2 c =
    let few = parts-few c.self.inside.numbers.blocks c.self.inside.kept.lists c.self.invariant.0 c.self.invariant.1 in
    omega (arith, few, c.self.invariant.2, c.from.ensures, c.size.ensures.few, c.from-2.ensures, c.size-2.ensures.few)

pub add-run-requires-clause-room : goal.add-run-requires-clause-room
add-run-requires-clause-room c =
    let room = subst (λ (v : StampLists). 1 ≤ slice_index v.spare c.args.first.trace) (sym c.self.view_is) c.requires.room in
    let is = slice_index-within c.self.inside.numbers.room c.self.inside.kept.spare c.args.first.trace in
    omega (arith, room, is)

pub keep-requires-2-clause-room : goal.keep-requires-2-clause-room
keep-requires-2-clause-room c =
    let room = subst (λ (v : StampLists). 2 ≤ slice_index v.spare c.args.second.trace) (sym c.self.view_is) c.requires.second_room in
    let is = slice_index-within c.self.inside.numbers.room c.self.inside.kept.spare c.args.second.trace in
    let less = c.keep.ensures.spare c.args.second.trace in
    omega (arith, room, is, less)

pub keep-requires-2-clause-linked : goal.keep-requires-2-clause-linked
keep-requires-2-clause-linked c =
    let blocks = c.self.inside.numbers.blocks in
    let later = c.add-run.new.self.blocks in
    let lists = c.self.inside.kept.lists in
    let seen = ap (λ (v : StampLists). v.lists) c.self.view_is in
    let stamp = c.args.stamp in
    let run = c.add-run.result in
    let many = as_many c.stamp.inside.level c.stamp.inside.members c.stamp.inside.clock.now stamp c.stamp.view_is in
    let is = run_is c.stamp.inside.level c.stamp.inside.members c.stamp.inside.clock.now stamp c.stamp.view_is later run c.traces.result.now c.traces.ensures.value c.add-run.ensures.run in
    let small : length stamp.members ≤ MOST_TRACES = omega (arith, c.size.ensures.size, c.size.ensures.few) in
    let all = subst (All (IsKept later)) (sym c.keep.ensures.lists) (all_next blocks later c.add-run.ensures.stay lists c.self.invariant.0 c.args.self.now seen c.args.first.trace c.args.first.number c.requires.next c.requires.most stamp run is many small) in
    (kept_of later c.keep.new.kept.lists all c.args.second.trace).linked

pub invariant_of-self : goal.invariant_of-self
invariant_of-self c =
    let blocks = c.self.inside.numbers.blocks in
    let later = c.add-run.new.self.blocks in
    let lists = c.self.inside.kept.lists in
    let seen = ap (λ (v : StampLists). v.lists) c.self.view_is in
    let stamp = c.args.stamp in
    let run = c.add-run.result in
    let many = as_many c.stamp.inside.level c.stamp.inside.members c.stamp.inside.clock.now stamp c.stamp.view_is in
    let is = run_is c.stamp.inside.level c.stamp.inside.members c.stamp.inside.clock.now stamp c.stamp.view_is later run c.traces.result.now c.traces.ensures.value c.add-run.ensures.run in
    let small : length stamp.members ≤ MOST_TRACES = omega (arith, c.size.ensures.size, c.size.ensures.few) in
    let with_first = with_item lists c.args.first.trace (next_kept (list_of lists c.args.first.trace) stamp run) in
    let placed : c.keep-2.new.kept.lists ≡ with_item with_first c.args.second.trace (next_kept (list_of with_first c.args.second.trace) stamp run) =
    c.keep-2.ensures.lists
    ∙ (ap (λ (l : List (List Kept)). with_item l c.args.second.trace (next_kept (list_of l c.args.second.trace) c.args.other run)) c.keep.ensures.lists
    ∙ ap (λ (s : ClusterTimestamp). with_item with_first c.args.second.trace (next_kept (list_of with_first c.args.second.trace) s run)) c.requires.equal) in
    let before = c.self.invariant.2 ∙ ap parts_of seen in
    let parts = parts-with_item c.args.self.now.lists c.args.first.trace stamp c.requires.first in
    let count = length-with_item c.args.self.now.lists c.args.first.trace stamp in
    let inside = c.requires.second in
    let parts_two = parts-with_item (with_item c.args.self.now.lists c.args.first.trace stamp) c.args.second.trace stamp (omega (arith, inside, count)) in
    let stamps = ap (map (stamps_of later)) placed ∙ stamps_two blocks later c.add-run.ensures.stay lists c.self.invariant.0 c.args.self.now seen c.args.first.trace c.args.first.number c.requires.next c.requires.most stamp run is many small c.args.second.trace c.args.second.number c.requires.second_next c.requires.second_most in
    let others = ap (λ (s : ClusterTimestamp). length s.members) c.requires.equal in (
      subst (All (IsKept later)) (sym placed) (all_two blocks later c.add-run.ensures.stay lists c.self.invariant.0 c.args.self.now seen c.args.first.trace c.args.first.number c.requires.next c.requires.most stamp run is many small c.args.second.trace c.args.second.number c.requires.second_next c.requires.second_most),
      (let same = length-with_item lists c.args.first.trace (next_kept (list_of lists c.args.first.trace) stamp run) in
          let same_two = length-with_item with_first c.args.second.trace (next_kept (list_of with_first c.args.second.trace) stamp run) in
          let pushed = ap length placed in
          omega (arith, same, same_two, pushed, c.self.invariant.1)),
      (let all = ap parts_of stamps in omega (arith, all, parts, parts_two, before, others, c.from.ensures, c.size.ensures.size, c.from-2.ensures, c.size-2.ensures.size)),
    )

pub returns-clause-lists : goal.returns-clause-lists
returns-clause-lists c =
    let blocks = c.self.inside.numbers.blocks in
    let later = c.add-run.new.self.blocks in
    let lists = c.self.inside.kept.lists in
    let seen = ap (λ (v : StampLists). v.lists) c.self.view_is in
    let stamp = c.args.stamp in
    let run = c.add-run.result in
    let many = as_many c.stamp.inside.level c.stamp.inside.members c.stamp.inside.clock.now stamp c.stamp.view_is in
    let is = run_is c.stamp.inside.level c.stamp.inside.members c.stamp.inside.clock.now stamp c.stamp.view_is later run c.traces.result.now c.traces.ensures.value c.add-run.ensures.run in
    let small : length stamp.members ≤ MOST_TRACES = omega (arith, c.size.ensures.size, c.size.ensures.few) in
    let with_first = with_item lists c.args.first.trace (next_kept (list_of lists c.args.first.trace) stamp run) in
    let placed : c.keep-2.new.kept.lists ≡ with_item with_first c.args.second.trace (next_kept (list_of with_first c.args.second.trace) stamp run) =
    c.keep-2.ensures.lists
    ∙ (ap (λ (l : List (List Kept)). with_item l c.args.second.trace (next_kept (list_of l c.args.second.trace) c.args.other run)) c.keep.ensures.lists
    ∙ ap (λ (s : ClusterTimestamp). with_item with_first c.args.second.trace (next_kept (list_of with_first c.args.second.trace) s run)) c.requires.equal) in
    ap (map (stamps_of later)) placed ∙ stamps_two blocks later c.add-run.ensures.stay lists c.self.invariant.0 c.args.self.now seen c.args.first.trace c.args.first.number c.requires.next c.requires.most stamp run is many small c.args.second.trace c.args.second.number c.requires.second_next c.requires.second_most

pub returns-clause-spare : goal.returns-clause-spare
returns-clause-spare c k =
    subst (λ (v : StampLists). slice_index v.spare k ≤ slice_index (spares_within c.add-run.new.self.room c.keep-2.new.kept.spare) k + 2) c.self.view_is
    (spares-fall c.self.inside.numbers.room c.add-run.new.self.room c.self.inside.kept.spare c.keep-2.new.kept.spare 2 (omega (arith, c.add-run.ensures.room))
    (λ at. let once = c.keep.ensures.spare at in let twice = c.keep-2.ensures.spare at in omega (arith, once, twice)) k)
