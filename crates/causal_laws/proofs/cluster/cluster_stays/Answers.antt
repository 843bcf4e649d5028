-- An event reaches the later ones of its trace, and what reaches an event was delivered before it.
use Rattle.causal_base.proofs.CallerLemmas.{numbered, causal, reaches_later}
use Rattle.causal_base.specs.Journal.{delivered_by, deliveries_by}
use Rattle.causal_laws.proofs.Levels.{stays_shared}
use Rattle.std.specs.Prelude.{reverse}
use Rattle.causal_laws.proofs.cluster.cluster_stays.Goals as goal

pub returns : goal.returns
returns c types clustering journal legal e later there later_there trace order level x shared =
    let its_causal = causal types (reverse journal) legal in
    let reaches = reaches_later types (delivered_by journal) (numbered types (deliveries_by journal) its_causal) e later there later_there trace order in
    stays_shared types clustering (deliveries_by journal) its_causal e later later_there reaches level e.id.trace x shared
