use Rattle.cut_scroll.proofs.ConsistentCuts.{stays_consistent}
use Rattle.cut_scroll.proofs.law.cut_stays_consistent.Goals as goal

pub returns : goal.returns
returns c types journal more legal cut was = stays_consistent types journal more legal cut was
