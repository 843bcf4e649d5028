use Rattle.command_line.proofs.PlanLemmas.{plan_once}
use Rattle.command_line.proofs.law.words_are_one_plan.Goals as goal

pub returns : goal.returns
returns c words asked other is also = plan_once words asked other is also
