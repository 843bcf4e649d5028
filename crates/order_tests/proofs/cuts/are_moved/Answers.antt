use Rattle.std.proofs.Common.{◌∙◌}
use Rattle.order_tests.proofs.cuts.are_moved.Goals as goal

pub loop-next-init : goal.loop-next-init
loop-next-init g c =
    let types = c.args.listed.now.plain.types in
    let cut = c.in_ok-cut.cut in
    let long = c.in_ok-cut.ensures.length ∙ c.traces.ensures.number in
    record {
      long = long;
      consistent = λ journal stands. c.ends_are_consistent.ensures.empty types journal stands.1 cut long c.in_ok-cut.ensures.empty;
    }
