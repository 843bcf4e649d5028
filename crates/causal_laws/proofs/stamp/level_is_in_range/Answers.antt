use Rattle.causal_base.specs.Journal.{deliveries_by}
use Rattle.causal_laws.proofs.Sizes.{level_within}
use Rattle.causal_laws.proofs.stamp.level_is_in_range.Goals as goal

pub returns-clause-least : goal.returns-clause-least
returns-clause-least c clustering journal e = (level_within clustering (deliveries_by journal) e).0

pub returns-clause-most : goal.returns-clause-most
returns-clause-most c clustering journal e = (level_within clustering (deliveries_by journal) e).1
