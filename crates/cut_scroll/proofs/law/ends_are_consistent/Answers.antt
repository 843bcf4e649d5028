use Rattle.cut_scroll.proofs.ConsistentCuts.{empty_is_consistent, whole_is_consistent}
use Rattle.cut_scroll.proofs.law.ends_are_consistent.Goals as goal

pub returns-clause-empty : goal.returns-clause-empty
returns-clause-empty c types journal legal cut traces empty = empty_is_consistent types journal legal cut traces empty

pub returns-clause-whole : goal.returns-clause-whole
returns-clause-whole c types journal legal cut traces all = whole_is_consistent types journal legal cut traces all
