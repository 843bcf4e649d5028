use Rattle.std.proofs.Common.{refl, below_more, arith}
use Rattle.cut_scroll.proofs.WholeTraces.{consistent_by_traces, whole_from_consistent}
use Rattle.cut_scroll.proofs.consistency.is_consistent.Goals as goal

pub returns-then-not-is_whole_on : goal.returns-then-not-is_whole_on
returns-then-not-is_whole_on g c journal stands = (
  (λ yes. absurd cc),
  (λ is. let yes = (c.is_whole_on.ensures journal stands).1 (whole_from_consistent (g.C.Causal.types c.args.book.now) journal (g.C.Causal.legal c.args.book.now journal stands) c.args.counts.now c.requires is c.loop-trace.trace (omega arith)) in let no = c.if-not-is_whole_on.true in cc),
)

pub loop-trace-preserved : goal.loop-trace-preserved
loop-trace-preserved g c journal stands = below_more _ _ (c.loop-trace.invariant journal stands) ((c.is_whole_on.ensures journal stands).0 c.if-not-is_whole_on.false)

pub returns : goal.returns
returns g c journal stands = (
  (λ _. consistent_by_traces (g.C.Causal.types c.args.book.now) journal (g.C.Causal.legal c.args.book.now journal stands) c.args.counts.now c.requires (λ trace low. c.loop-trace.invariant journal stands trace (omega (arith, low)))),
  (λ _. refl),
)
