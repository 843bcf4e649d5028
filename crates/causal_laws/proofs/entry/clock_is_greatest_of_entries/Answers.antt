-- Both ways, by the last step of a walk that enters the members.
use Rattle.causal_base.proofs.CallerLemmas.{causal}
use Rattle.causal_base.specs.Journal.{deliveries_by}
use Rattle.causal_laws.proofs.Entries.{greatest_from_clock, clock_from_greatest}
use Rattle.std.specs.Prelude.{reverse}
use Rattle.causal_laws.proofs.entry.clock_is_greatest_of_entries.Goals as goal

pub returns : goal.returns
returns c types clustering journal legal e there trace outside n =
    let its_causal = causal types (reverse journal) legal in
    let history = deliveries_by journal in
    (greatest_from_clock types clustering history its_causal e there trace outside n, clock_from_greatest types clustering history its_causal e there trace outside n)
