-- A pair is a step both ways.
use Rattle.causal_base.specs.Journal.{delivered_by}
use Rattle.causal_base.proofs.CallerLemmas.{pairs_swapped}
use Rattle.causal_laws.proofs.PairPasts.{partner_reaches}
use Rattle.causal_laws.proofs.pair.partners_reach_each_other.Goals as goal

pub returns : goal.returns
returns c types journal a b in_a in_b pairs =
    let events = delivered_by journal in
    (partner_reaches types events a b in_a in_b pairs, partner_reaches types events b a in_b in_a (pairs_swapped types a b pairs))
