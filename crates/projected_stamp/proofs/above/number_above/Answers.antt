use Rattle.std.proofs.Common.{◌≤◌, ◌∙◌, sym, arith}
use Rattle.shared_list.specs.Traces.{list_of}
use Rattle.projected_stamp.proofs.Links.{link-smaller, link-same}
use Rattle.projected_stamp.proofs.above.number_above.Goals as goal

pub loop-number-smaller : goal.loop-number-smaller
loop-number-smaller c =
    let low : c.in-Some.last.now.level ≤ c.args.level = omega (arith, c.if-last-level.false) in
    link-smaller (list_of c.args.kept.now.lists c.args.trace) c.requires.linked c.args.level c.loop-number.number c.in-Some.last.now c.loop-number-test.true (sym c.in-Some.ensures) low

pub loop-number-preserved : goal.loop-number-preserved
loop-number-preserved c =
    let low : c.in-Some.last.now.level ≤ c.args.level = omega (arith, c.if-last-level.false) in
    let kept = list_of c.args.kept.now.lists c.args.trace in
    let smaller = link-smaller kept c.requires.linked c.args.level c.loop-number.number c.in-Some.last.now c.loop-number-test.true (sym c.in-Some.ensures) low in
    record {
      within = omega (arith, smaller, c.loop-number.invariant.within);
      same = link-same kept c.requires.linked c.args.level c.loop-number.number c.in-Some.last.now c.loop-number-test.true (sym c.in-Some.ensures) low ∙ c.loop-number.invariant.same;
    }
