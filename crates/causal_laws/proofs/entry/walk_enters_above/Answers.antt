-- The step that enters the members ends at such an event.
use Rattle.causal_base.proofs.CallerLemmas.{causal}
use Rattle.causal_base.specs.Journal.{deliveries_by}
use Rattle.causal_laws.proofs.Levels.{walk_enters}
use Rattle.std.specs.Prelude.{reverse}
use Rattle.causal_laws.proofs.entry.walk_enters_above.Goals as goal

pub returns : goal.returns
returns c types clustering journal legal e there a through walk outside =
    let enters = walk_enters types clustering (deliveries_by journal) (causal types (reverse journal) legal) through a e there walk outside in
    (enters.earlier, enters.from, enters.at, enters.later, enters.is_walk, enters.outside, enters.member, enters.above)
