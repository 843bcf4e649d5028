use Rattle.std.proofs.Common.{◌≡◌, true, false, below_more, sym, ◌∙◌, arith}
use Rattle.target_desc.proofs.TraceLemmas.{twice_name}
use Rattle.target_desc.proofs.traces.first_twice.Goals as goal

pub returns-then-contains-clause-found : goal.returns-then-contains-clause-found
returns-then-contains-clause-found c =
    let tells = twice_name c.args.names.now c.loop-place.place c.index-names-place.result c.contains.result c.loop-place-test.true c.index-names-place.is c.contains.ensures.value in
    record { below = c.loop-place-test.true; has = tells.0 c.if-contains.true; none_before = c.loop-place.invariant }

pub loop-place-preserved : goal.loop-place-preserved
loop-place-preserved c =
    let tells = twice_name c.args.names.now c.loop-place.place c.index-names-place.result c.contains.result c.loop-place-test.true c.index-names-place.is c.contains.ensures.value in
    below_more _ _ c.loop-place.invariant (λ twice.
    let clash : true ≡ false = sym (tells.1 twice) ∙ c.if-contains.false in
    cc)

pub returns-clause-none : goal.returns-clause-none
returns-clause-none c = λ i below. c.loop-place.invariant i (omega (arith, below, c.loop-place-test.false))
