use Rattle.std.proofs.Common.{◌∷◌, [], length, reverse, ap, subst, arith, ◌∙◌, length-append}
use Rattle.causal_base.specs.declared.block.Block.TheVariants.{One, Two}
use Rattle.causal_base.specs.declared.entry.Entry.TheVariants.{Gone, Pair}
use Rattle.causal_base.specs.Past.{came, IsNext}
use Rattle.causal_base.proofs.Journals.{reverse-push}
use Rattle.causal_base.proofs.OpenJournals.{next_trace, next_count, next_room, pair_lower, pair_trace, pair_count, pair_room}
use Rattle.causal_base.proofs.plain.settle.Goals as goal
use Rattle.causal_base.proofs.plain.settle.Goals.{In-One, In-Two}

-- the event that is next, and the partners that are
next_one : (c : In-One) → IsNext c.args.types.now (reverse c.loop-block.journal) (One c.in-One.id)
next_one c = subst (IsNext c.args.types.now (reverse c.loop-block.journal)) c.in-One.is c.in-Some.ensures.some

next_two : (c : In-Two) → IsNext c.args.types.now (reverse c.loop-block.journal) (Two c.in-Two.first c.in-Two.second)
next_two c = subst (IsNext c.args.types.now (reverse c.loop-block.journal)) c.in-Two.is c.in-Some.ensures.some

pub push_gone-requires-clause-trace : goal.push_gone-requires-clause-trace
push_gone-requires-clause-trace c =
    next_trace c.args.types.now c.loop-block.journal c.loop-block.invariant.kept c.in-One.id (next_one (goal.at.push_gone-requires-clause-trace c).In-One)

pub push_gone-requires-clause-few : goal.push_gone-requires-clause-few
push_gone-requires-clause-few c =
    let few = next_count c.args.types.now c.loop-block.journal c.loop-block.invariant.kept c.in-One.id (next_one (goal.at.push_gone-requires-clause-few c).In-One) in
    omega (arith, few)

pub push_gone-requires-clause-room : goal.push_gone-requires-clause-room
push_gone-requires-clause-room c =
    next_room c.args.types.now c.loop-block.journal c.loop-block.invariant.kept c.in-One.id (next_one (goal.at.push_gone-requires-clause-room c).In-One)

pub push_pair-requires-clause-first_trace : goal.push_pair-requires-clause-first_trace
push_pair-requires-clause-first_trace c =
    pair_lower c.args.types.now c.loop-block.journal c.loop-block.invariant.kept c.in-Two.first c.in-Two.second (next_two (goal.at.push_pair-requires-clause-first_trace c).In-Two)

pub push_pair-requires-clause-second_trace : goal.push_pair-requires-clause-second_trace
push_pair-requires-clause-second_trace c =
    pair_trace c.args.types.now c.loop-block.journal c.loop-block.invariant.kept c.in-Two.first c.in-Two.second (next_two (goal.at.push_pair-requires-clause-second_trace c).In-Two)

pub push_pair-requires-clause-first_few : goal.push_pair-requires-clause-first_few
push_pair-requires-clause-first_few c =
    let few = pair_count c.args.types.now c.loop-block.journal c.loop-block.invariant.kept c.in-Two.first c.in-Two.second (next_two (goal.at.push_pair-requires-clause-first_few c).In-Two) c.in-Two.first.trace in
    omega (arith, few)

pub push_pair-requires-clause-second_few : goal.push_pair-requires-clause-second_few
push_pair-requires-clause-second_few c =
    let few = pair_count c.args.types.now c.loop-block.journal c.loop-block.invariant.kept c.in-Two.first c.in-Two.second (next_two (goal.at.push_pair-requires-clause-second_few c).In-Two) c.in-Two.second.trace in
    omega (arith, few)

pub push_pair-requires-clause-room : goal.push_pair-requires-clause-room
push_pair-requires-clause-room c =
    pair_room c.args.types.now c.loop-block.journal c.loop-block.invariant.kept c.in-Two.first c.in-Two.second (next_two (goal.at.push_pair-requires-clause-room c).In-Two)

pub loop-block-smaller-in-One : goal.loop-block-smaller-in-One
loop-block-smaller-in-One c =
    let before = c.loop-block.journal in
    let id = c.in-One.id in
    let room = next_room c.args.types.now before c.loop-block.invariant.kept id (next_one (goal.at.loop-block-smaller-in-One c).In-One) in
    let longer = ap length c.push_gone.ensures ∙ length-append before (Gone id ∷ []) in
    let same = ap (λ j. length (came (reverse j))) c.push_gone.ensures ∙ ap (λ past. length (came past)) (reverse-push before (Gone id)) in
    omega (arith, room, longer, same)

pub loop-block-smaller : goal.loop-block-smaller
loop-block-smaller c =
    let before = c.loop-block.journal in
    let first = c.in-Two.first in
    let second = c.in-Two.second in
    let room = pair_room c.args.types.now before c.loop-block.invariant.kept first second (next_two (goal.at.loop-block-smaller c).In-Two) in
    let longer = ap length c.push_pair.ensures ∙ length-append before (Pair first second ∷ []) in
    let same = ap (λ j. length (came (reverse j))) c.push_pair.ensures ∙ ap (λ past. length (came past)) (reverse-push before (Pair first second)) in
    omega (arith, room, longer, same)
