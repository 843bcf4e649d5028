use Rattle.load_laws.proofs.PastsByClock.{alone_is_counted, paired_is_counted}
use Rattle.load_laws.proofs.past.past_is_counted_by_clock.Goals as goal

pub returns-clause-alone : goal.returns-clause-alone
returns-clause-alone c types journal legal e there no_sync clock whole clocks = alone_is_counted types journal legal e there clock whole clocks no_sync

pub returns-clause-paired : goal.returns-clause-paired
returns-clause-paired c types journal legal e there sync clock whole clocks = paired_is_counted types journal legal e there clock whole clocks sync
