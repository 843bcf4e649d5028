-- What stands within the limit has the fault, and no more of a text changes that.
use Rattle.raw_reader.proofs.ClosedPrefixes.{known_stays_on}
use Rattle.raw_reader.proofs.law.known_fault_stays.Goals as goal

pub returns : goal.returns
returns c types bytes more lines error known = known_stays_on types bytes more lines error known
