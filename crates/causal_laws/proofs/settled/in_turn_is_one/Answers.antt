-- The law is a lemma on journals that go on from one.
use Rattle.std.proofs.Common.{[]}
use Rattle.causal_laws.proofs.OneTurn.{takes_all_one}
use Rattle.causal_laws.proofs.settled.in_turn_is_one.Goals as goal

pub returns : goal.returns
returns c types limit lists journal other one two = takes_all_one types limit 0 lists [] journal other one two
