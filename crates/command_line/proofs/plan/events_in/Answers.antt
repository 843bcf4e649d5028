use Rattle.std.proofs.Common.{arith}
use Rattle.causal_base.proofs.CallerLemmas.{number_once}
use Rattle.command_line.proofs.plan.events_in.Goals as goal

pub returns-then-events-from-clause-none : goal.returns-then-events-from-clause-none
returns-then-events-from-clause-none c = λ events spelled most.
    let same = number_once c.args.text.now c.in_ok-events.events events c.in_ok-events.ensures.found (record { small = omega (arith, most); spelled = spelled }) in
    omega (arith, same, most, c.if-events-from.true, c.from.ensures)
