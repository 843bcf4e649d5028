use Rattle.cut_scroll.proofs.ConsistentCuts.{joined_is_consistent, met_is_consistent}
use Rattle.cut_scroll.proofs.law.cuts_join_and_meet.Goals as goal

pub returns-clause-join : goal.returns-clause-join
returns-clause-join c types events cut other one two = joined_is_consistent types events cut other one two

pub returns-clause-meet : goal.returns-clause-meet
returns-clause-meet c types events cut other one two = met_is_consistent types events cut other one two
