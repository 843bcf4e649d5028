-- No steps leave the list to all of them, and each leaves it to the rest.
use Rattle.std.proofs.Common.{[], ◌∙◌, arith}
use Rattle.workload.proofs.Steps.{made-enough, made_after}
use Rattle.workload.proofs.workload.Workload.make.Goals as goal

pub loop-left-init : goal.loop-left-init
loop-left-init c =
    let none = c.in_ok-workload.ensures.events in
    record {
      x = c.requires.start;
      left = rw none (omega arith);
      traces = c.in_ok-workload.ensures.traces;
      list = λ steps enough. rw none (made-enough c.args.n c.args.traces steps c.args.n [] c.args.start (omega arith) (omega arith));
    }

pub loop-left-preserved : goal.loop-left-preserved
loop-left-preserved c =
    let after = made_after c.args.n c.args.traces c.loop-left.left c.loop-left.workload.events.items c.add_step.new.self.events.items _ c.loop-left.x c.draw-first.result c.draw-second.result c.draw-third.result
    c.draw-first.ensures.drawn c.draw-second.ensures.drawn c.draw-third.ensures.drawn c.loop-left.invariant.left c.loop-left-test.true c.in_ok-add_step.ensures.events c.loop-left.invariant.list in
    let length_is = c.add_step.new.self.events.ok.0 in
    record {
      x = c.draw-third.ensures.small;
      left = omega (arith, c.len.ensures, length_is, after.0);
      traces = c.in_ok-add_step.ensures.traces ∙ c.loop-left.invariant.traces;
      list = λ steps enough. after.1 steps (omega (arith, c.len.ensures, length_is, after.0));
    }
