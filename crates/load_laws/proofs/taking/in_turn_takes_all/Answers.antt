use Rattle.load_laws.proofs.TakenEvents.{in_turn_no_more, in_turn_all}
use Rattle.load_laws.proofs.taking.in_turn_takes_all.Goals as goal

pub returns-clause-no_more : goal.returns-clause-no_more
returns-clause-no_more c types limit lists journal in_turn = in_turn_no_more types limit lists journal in_turn

pub returns-clause-all : goal.returns-clause-all
returns-clause-all c types limit lists journal in_turn own_ids fits = in_turn_all types limit lists journal in_turn own_ids fits
