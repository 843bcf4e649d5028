use Rattle.std.proofs.Common.{◌≡◌, true, false, sym, ◌∙◌, arith, below_more}
use Rattle.target_desc.specs.Drafts.{MateIsNotMutual}
use Rattle.target_desc.proofs.DraftLemmas.{has_at, at_within}
use Rattle.target_desc.proofs.mates.first_unmutual_mate.Goals as goal

pub loop-place-preserved : goal.loop-place-preserved
loop-place-preserved c = below_more _ _ c.loop-place.invariant (λ has.
    let here = has_at (MateIsNotMutual c.args.drafts.now) c.args.drafts.now c.loop-place.place c.index-drafts-place.result c.loop-place-test.true c.index-drafts-place.is has in
    let clash : true ≡ false = sym (c.has_no_mutual_mate.ensures.1 here) ∙ c.if-has_no_mutual_mate.false in
    cc)

pub returns-clause-none : goal.returns-clause-none
returns-clause-none c = λ i has.
    c.loop-place.invariant i (omega (arith, at_within (MateIsNotMutual c.args.drafts.now) c.args.drafts.now i has, c.loop-place-test.false)) has
