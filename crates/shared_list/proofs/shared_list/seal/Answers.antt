use Rattle.std.proofs.Common.{◌≤◌, ◌++◌, length, drop, ◌∙◌, ap, arith}
use Rattle.std.specs.Prelude.{vec_len, vec_capacity}
use Rattle.std.proofs.lemmas.List.{length-take-le}
use Rattle.shared_list.proofs.Openings.{items-sealed, items-restored, length-end}
use Rattle.shared_list.proofs.shared_list.seal.Goals as goal

pub push-requires : goal.push-requires
push-requires g c =
    let tail = c.args.tail.now in
    let long : 64 ≤ length tail.items = omega (arith, c.requires.full, tail.ok.0) in
    ap (λ v. length v.items) c.replace-block.ensures.value ∙ ap length c.move_end.ensures.from ∙ length-take-le 64 tail.items long

pub move_end-requires-in-Err-clause-one : goal.move_end-requires-in-Err-clause-one
move_end-requires-in-Err-clause-one g c =
    let tail = c.args.tail.now in
    let end = c.move_end.new.to in
    let few = length-end tail.items c.in_ok-next.next.items end.items c.in_ok-next.ensures.items c.move_end.ensures.to in
    let same = ap (λ v. vec_len v) (c.replace-next.ensures.value ∙ c.replace-block.ensures.after) in
    omega (arith, few, same, end.ok.0, tail.ok.0, tail.ok.1, c.requires.fits)

pub move_end-requires-in-Err-clause-room : goal.move_end-requires-in-Err-clause-room
move_end-requires-in-Err-clause-room g c =
    let tail = c.args.tail.now in
    let end = c.move_end.new.to in
    let front = c.move_end.new.from in
    let few = length-end tail.items c.in_ok-next.next.items end.items c.in_ok-next.ensures.items c.move_end.ensures.to in
    let same = ap (λ v. vec_len v) (c.replace-next.ensures.value ∙ c.replace-block.ensures.after) in
    let back = c.replace-next.ensures.after ∙ c.in-Err.ensures.back ∙ c.replace-block.ensures.value in
    let long : 64 ≤ length tail.items = omega (arith, c.requires.full, tail.ok.0) in
    let front_length = ap length c.move_end.ensures.from ∙ length-take-le 64 tail.items long in
    omega (arith, few, same, front_length, ap (λ v. vec_len v) back, ap (λ v. vec_capacity v) back, end.ok.0, front.ok.0, tail.ok.0, tail.ok.1, c.move_end.ensures.from_room)

pub returns-in-Ok-clause-items : goal.returns-in-Ok-clause-items
returns-in-Ok-clause-items g c =
    let end = ap (λ v. v.items) c.replace-block.ensures.after ∙ c.move_end.ensures.to in
    let block = ap (λ v. v.items) c.replace-block.ensures.value ∙ c.move_end.ensures.from in
    ap (λ xs. xs ++ c.replace-block.new.dest.items) c.in-Ok.ensures.ok
    ∙ items-sealed c.args.spine.now c.args.tail.now.items c.replace-block.result.items c.in_ok-next.next.items c.replace-block.new.dest.items block c.in_ok-next.ensures.items end

pub returns-in-Ok-clause-room : goal.returns-in-Ok-clause-room
returns-in-Ok-clause-room g c =
    let tail = c.args.tail.now in
    let end = c.move_end.new.to in
    let few = length-end tail.items c.in_ok-next.next.items end.items c.in_ok-next.ensures.items c.move_end.ensures.to in
    let same = c.replace-block.ensures.after in
    omega (arith, few, ap (λ v. vec_len v) same, ap (λ v. vec_capacity v) same, end.ok.0, tail.ok.0, tail.ok.1, c.requires.fits, c.move_end.ensures.to_room, c.in_ok-next.ensures.exact)

pub returns-in-Err-clause-tail : goal.returns-in-Err-clause-tail
returns-in-Err-clause-tail g c =
    let end = c.move_end.new.to in
    let block = c.move_end.new.from in
    let kept = ap (λ v. v.items) (c.replace-next.ensures.after ∙ c.in-Err.ensures.back ∙ c.replace-block.ensures.value) in
    let moved = ap (λ v. v.items) (c.replace-next.ensures.value ∙ c.replace-block.ensures.after) in
    items-restored c.args.spine.now c.args.tail.now.items block.items c.in_ok-next.next.items end.items c.move_end.ensures.from c.in_ok-next.ensures.items c.move_end.ensures.to c.move_end-in-Err.new.to.items
    (c.move_end-in-Err.ensures.to ∙ ap (λ xs. xs ++ drop 0 c.replace-next.result.items) kept ∙ ap (λ xs. block.items ++ drop 0 xs) moved)

pub returns-in-Err-clause-items : goal.returns-in-Err-clause-items
returns-in-Err-clause-items g c = ap (λ xs. xs ++ c.move_end-in-Err.new.to.items) c.in-Err.ensures.err ∙ ap (λ xs. c.args.spine.now ++ xs) (returns-in-Err-clause-tail g c)
