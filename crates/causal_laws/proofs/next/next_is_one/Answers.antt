-- Each has the lowest trace, so they share it.
use Rattle.std.specs.Prelude.{reverse}
use Rattle.causal_base.specs.Past.{came, deliveries}
use Rattle.causal_base.proofs.CallerLemmas.{history_of_past}
use Rattle.causal_laws.proofs.Blocks.{next_is_one, same_block}
use Rattle.causal_laws.proofs.next.next_is_one.Goals as goal

pub returns-clause-shared : goal.returns-clause-shared
returns-clause-shared c types events history basis a b enabled_a enabled_b trace on_a on_b =
    same_block types events history basis a b enabled_a enabled_b trace on_a on_b

pub returns-clause-among : goal.returns-clause-among
returns-clause-among c types events history basis a b next_a next_b = next_is_one types events history basis a b next_a next_b

pub returns-clause-journal : goal.returns-clause-journal
returns-clause-journal c types journal legal a b next_a next_b =
    next_is_one types (came (reverse journal)) (deliveries (reverse journal)) (history_of_past types (reverse journal) legal) a b next_a next_b
