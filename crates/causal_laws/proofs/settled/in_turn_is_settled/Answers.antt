use Rattle.causal_base.specs.declared.entry.Entry.TheVariants.{Ended}
use Rattle.causal_laws.proofs.PairBlocks.{Contains-reversed, Contains-unreversed}
use Rattle.causal_laws.proofs.InTurnLaws.{in_turn_stands}
use Rattle.causal_laws.proofs.settled.in_turn_is_settled.Goals as goal

pub returns-clause-legal : goal.returns-clause-legal
returns-clause-legal c types limit lists journal in_turn = (in_turn_stands types limit lists journal in_turn).legal

pub returns-clause-settled : goal.returns-clause-settled
returns-clause-settled c types limit lists journal in_turn = (in_turn_stands types limit lists journal in_turn).settled

pub returns-clause-ended : goal.returns-clause-ended
returns-clause-ended c types limit lists journal in_turn collector =
    let stands = in_turn_stands types limit lists journal in_turn in (
      (λ has. stands.ended collector (Contains-unreversed journal (Ended collector) has)),
      (λ low. Contains-reversed journal (Ended collector) (stands.all collector low)),
    )
