use Rattle.std.proofs.Common.{◌≡◌, true, false, arith}
use Rattle.causal_base.proofs.CallerLemmas.{number_once}
use Rattle.command_line.proofs.OptionLemmas.{after_is_number}
use Rattle.command_line.proofs.options.after_in.Goals as goal

pub returns-then-not-is_after-clause-none : goal.returns-then-not-is_after-clause-none
returns-then-not-is_after-clause-none c = λ after is.
    let same = number_once c.args.text.now c.in_ok-after.after after c.in_ok-after.ensures.found (after_is_number c.args.text.now after is) in
    let wrong : false ≡ true = c.if-not-is_after.ensures.1 (omega (arith, same, is.least), omega (arith, same, is.most)) in
    absurd cc
