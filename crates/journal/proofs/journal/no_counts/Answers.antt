use Rattle.std.proofs.lemmas.List.{get_or-replicate}
use Rattle.journal.proofs.journal.no_counts.Goals as goal

pub returns : goal.returns
returns c = λ trace below. get_or-replicate 256 trace 0 0 below
