use Rattle.std.proofs.Common.{refl, arith}
use Rattle.event_book.proofs.desk.have_all_ended.Goals as goal

pub returns : goal.returns
returns c = (λ yes k below. c.loop-collector.invariant k (omega (arith, below)), λ all. refl)
