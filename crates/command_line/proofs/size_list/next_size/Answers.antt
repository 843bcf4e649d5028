use Rattle.std.proofs.Common.{arith}
use Rattle.std.specs.Option.{option_copied}
use Rattle.causal_base.proofs.CallerLemmas.{number_once}
use Rattle.command_line.proofs.Exits.{if_none}
use Rattle.command_line.proofs.ListLemmas.{part_is_size}
use Rattle.command_line.proofs.size_list.next_size.Goals as goal

pub returns-in_err-size-clause-none : goal.returns-in_err-size-clause-none
returns-in_err-size-clause-none c =
    if_none c.from_residual.result (λ size others small is.
    let part = part_is_size c.args.text.now c.first_part.result.0.now (option_copied c.first_part.result.1) size others c.first_part.ensures small is in
    c.in_err-size.ensures.none size part.0)

pub returns-then-size-from-clause-none : goal.returns-then-size-from-clause-none
returns-then-size-from-clause-none c = λ size others small is.
    let part = part_is_size c.args.text.now c.first_part.result.0.now (option_copied c.first_part.result.1) size others c.first_part.ensures small is in
    let same = number_once c.first_part.result.0.now c.in_ok-size.size size c.in_ok-size.ensures.found part.0 in
    omega (arith, same, small)
