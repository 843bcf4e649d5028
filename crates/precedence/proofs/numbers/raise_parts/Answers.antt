use Rattle.std.proofs.Common.{◌≡◌, ◌<◌, ◌∙◌, sym, ap, arith, length, get_or, List, ℕ, Some}
use Rattle.std.proofs.lemmas.Option.{slice_get-get_or, slice_get_within}
use Rattle.precedence.proofs.Raising.{raises_none, raises_more, raises_all}
use Rattle.precedence.proofs.numbers.raise_parts.Goals as goal

pub loop-place-init : goal.loop-place-init
loop-place-init c = raises_none c.args.stamp.now c.args.numbers.now

pub loop-place-preserved : goal.loop-place-preserved
loop-place-preserved c =
    let stamp = c.args.stamp.now in
    let place = c.loop-place.place in
    let as_many = ap length c.members-place-end.ensures.value in
    let inside : place < length stamp.members = omega (arith, c.loop-place-test.true, as_many) in
    let count : length stamp.clock ≡ length stamp.members = ap length (sym c.numbers.ensures.value) ∙ c.numbers.ensures.one_a_member in
    let member = slice_get-get_or stamp.members place 0 inside ∙ ap (λ (m : List ℕ). Some (get_or m place 0)) (sym c.members.ensures.value) in
    let number = slice_get-get_or stamp.clock place 0 (omega (arith, inside, count)) ∙ ap (λ (m : List ℕ). Some (get_or m place 0)) (sym c.numbers.ensures.value) in
    raises_more stamp place c.args.numbers.now c.loop-place.numbers c.raise.new.numbers (get_or c.members.result.now place 0) (get_or c.numbers.result.now place 0) member number c.raise.ensures c.loop-place.auto.numbers c.loop-place.invariant

pub returns : goal.returns
returns c =
    let as_many = ap length c.members-place-end.ensures.value in
    raises_all c.args.stamp.now c.loop-place.place c.args.numbers.now c.loop-place.numbers (omega (arith, as_many, c.loop-place-test.false))
    (λ trace n part. slice_get_within c.args.stamp.now.members part.at trace part.member) c.loop-place.invariant
