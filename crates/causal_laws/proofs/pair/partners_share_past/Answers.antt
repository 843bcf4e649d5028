-- A walk to one partner goes on to the other.
use Rattle.std.specs.Prelude.{reverse}
use Rattle.causal_base.specs.Journal.{delivered_by}
use Rattle.causal_base.proofs.CallerLemmas.{pairs_swapped, reaches_on, delivered_numbered}
use Rattle.causal_laws.proofs.PairPasts.{partner_reaches, before_partner}
use Rattle.causal_laws.proofs.pair.partners_share_past.Goals as goal

pub returns-clause-reach : goal.returns-clause-reach
returns-clause-reach c types journal a b in_a in_b pairs x =
    let events = delivered_by journal in (
      λ reaches. reaches_on types events x a b reaches (partner_reaches types events a b in_a in_b pairs),
      λ reaches. reaches_on types events x b a reaches (partner_reaches types events b a in_b in_a (pairs_swapped types a b pairs)),
    )

pub returns-clause-before : goal.returns-clause-before
returns-clause-before c types journal legal a b in_a in_b pairs x =
    let events = delivered_by journal in
    let in_turn = delivered_numbered types (reverse journal) legal in
    (before_partner types events in_turn a b in_a in_b pairs x, before_partner types events in_turn b a in_b in_a (pairs_swapped types a b pairs) x)
