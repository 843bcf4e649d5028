-- Partners reach each other.
use Rattle.causal_base.specs.Journal.{delivered_by}
use Rattle.causal_laws.proofs.Entries.{partner_clock}
use Rattle.causal_base.proofs.CallerLemmas.{pairs_swapped}
use Rattle.causal_laws.proofs.clock.partners_share_clock.Goals as goal

pub returns : goal.returns
returns c types journal a b in_a in_b pairs trace n =
    let events = delivered_by journal in
    (partner_clock types events a b in_a in_b pairs trace n, partner_clock types events b a in_b in_a (pairs_swapped types a b pairs) trace n)
