-- A walk from one partner may begin at the other.
use Rattle.std.specs.Prelude.{reverse}
use Rattle.causal_base.specs.Journal.{delivered_by}
use Rattle.causal_base.proofs.CallerLemmas.{pairs_swapped, reaches_on, delivered_numbered}
use Rattle.causal_laws.proofs.PairPasts.{partner_reaches, partner_before}
use Rattle.causal_laws.proofs.pair.partners_share_future.Goals as goal

pub returns-clause-reach : goal.returns-clause-reach
returns-clause-reach c types journal a b in_a in_b pairs x =
    let events = delivered_by journal in (
      λ reaches. reaches_on types events b a x (partner_reaches types events b a in_b in_a (pairs_swapped types a b pairs)) reaches,
      λ reaches. reaches_on types events a b x (partner_reaches types events a b in_a in_b pairs) reaches,
    )

pub returns-clause-before : goal.returns-clause-before
returns-clause-before c types journal legal a b in_a in_b pairs x =
    let events = delivered_by journal in
    let in_turn = delivered_numbered types (reverse journal) legal in
    (partner_before types events in_turn a b in_a in_b pairs x, partner_before types events in_turn b a in_b in_a (pairs_swapped types a b pairs) x)
