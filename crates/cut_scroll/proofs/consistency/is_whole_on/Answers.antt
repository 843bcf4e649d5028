use Rattle.std.proofs.Common.{refl, arith}
use Rattle.cut_scroll.proofs.DeliveredEvents.{event_with}
use Rattle.cut_scroll.proofs.WholeTraces.{whole_by_last, whole_without}
use Rattle.cut_scroll.proofs.consistency.is_whole_on.Goals as goal

pub returns-then-number-eq0 : goal.returns-then-number-eq0
returns-then-number-eq0 g c journal stands = (
  (λ _. whole_without (g.C.Causal.types c.args.book.now) journal (g.C.Causal.legal c.args.book.now journal stands) c.args.counts.now c.requires.length c.args.trace c.if-number-eq0.true),
  (λ _. refl),
)

pub has_past-requires-clause-delivered : goal.has_past-requires-clause-delivered
has_past-requires-clause-delivered g c journal stands =
    let most = c.count.ensures journal stands in
    event_with (g.C.Causal.types c.args.book.now) journal (g.C.Causal.legal c.args.book.now journal stands) c.args.trace _ (omega (arith, c.if-number-eq0.false)) (omega (arith, most, c.if-number-count.false))

pub returns : goal.returns
returns g c journal stands =
    let most = c.count.ensures journal stands in
    let whole = whole_by_last (g.C.Causal.types c.args.book.now) journal (g.C.Causal.legal c.args.book.now journal stands) c.args.counts.now c.requires.length c.args.trace (omega (arith, c.if-number-eq0.false)) (omega (arith, most, c.if-number-count.false)) in
    let past = c.has_past.ensures journal stands in (
      (λ yes. whole.0 (past.0 yes)),
      (λ is. past.1 (whole.1 is)),
    )
