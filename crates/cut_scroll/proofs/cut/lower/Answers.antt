use Rattle.std.proofs.Common.{◌<◌, ◌≢◌, length, sym, ◌∙◌, subst, arith, get_or, get_or-set_other, get_or-set_same, below_more}
use Rattle.causal_base.specs.Journal.{delivered_by}
use Rattle.cut_scroll.specs.Parts.{IsUnreached}
use Rattle.cut_scroll.proofs.cut.lower.Goals as goal

pub loop-trace-preserved : goal.loop-trace-preserved
loop-trace-preserved g c =
    let types = g.C.Causal.types c.args.book.now in
    let trace = c.loop-trace.trace in
    let some = c.traces-trace-end.ensures.stands in
    let long = (c.requires.cut some.0 some.1).traces in
    let inside : trace < length c.loop-trace.counts = omega (arith, long, c.loop-trace.auto.counts, c.loop-trace-test.true, c.traces-trace-end.ensures.number) in
    record {
      lowered = λ journal stands x there is. below_more _ _
          (λ k low.
          let other : k ≢ trace = omega (arith, low) in
          subst (λ n. IsUnreached types (delivered_by journal) x k (get_or c.args.counts.now k 0) n) (sym (get_or-set_other c.loop-trace.counts trace k c.unreached.result 0 other)) (c.loop-trace.invariant.lowered journal stands x there is k low))
          (let here = subst (λ m. IsUnreached types (delivered_by journal) x trace m c.unreached.result) (c.loop-trace.invariant.left trace (omega arith)) (c.unreached.ensures.unreached journal stands x there is) in
          subst (λ n. IsUnreached types (delivered_by journal) x trace (get_or c.args.counts.now trace 0) n) (sym (get_or-set_same c.loop-trace.counts trace c.unreached.result 0 inside)) here);
      left = λ k past. let other : k ≢ trace = omega (arith, past) in get_or-set_other c.loop-trace.counts trace k c.unreached.result 0 other ∙ c.loop-trace.invariant.left k (omega (arith, past));
      asked = omega (arith, c.loop-trace.invariant.asked, c.unreached.ensures.steps);
    }

pub returns-clause-lowered : goal.returns-clause-lowered
returns-clause-lowered g c journal stands x there is trace low = c.loop-trace.invariant.lowered journal stands x there is trace (omega (arith, low))
