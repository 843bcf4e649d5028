use Rattle.causal_laws.proofs.VectorLaws.{own_alone, clock_alone}
use Rattle.causal_laws.proofs.clock.clock_of_one.Goals as goal

pub returns-clause-own : goal.returns-clause-own
returns-clause-own c types past e new = own_alone types past e new

pub returns-clause-other : goal.returns-clause-other
returns-clause-other c types past e new trace m n other before fitted = clock_alone types past new.1 trace e new m n other before fitted
