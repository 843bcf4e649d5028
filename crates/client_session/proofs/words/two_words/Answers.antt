use Rattle.std.proofs.Common.{◌≡◌, ℕ, List}
use Rattle.std.specs.Option.{option_copied}
use Rattle.client_session.specs.declared.script_error.ScriptCause.TheVariants.{Shape}
use Rattle.client_session.specs.Words.{AreOthers, IsBadShape, behind}
use Rattle.client_session.proofs.Exits.{if_err_from}
use Rattle.client_session.proofs.WordLemmas.{next_shape}
use Rattle.client_session.proofs.words.two_words.Goals as goal

pub returns-in_err-second-clause-err : goal.returns-in_err-second-clause-err
returns-in_err-second-clause-err c =
    let bytes = behind (option_copied c.args.others) in
    if_err_from (λ cause. (cause ≡ Shape) × ((words : List (List ℕ)) → AreOthers bytes words → IsBadShape 2 words))
    c.from_residual-in_err-second.result c.in_err-second.field-0.0 c.from_residual-in_err-second.ensures.1
    (c.in_err-second.ensures.err.0, next_shape bytes c.in_ok-first.first.now (option_copied c.in_ok-first.others) 1 c.in_ok-first.ensures.ok c.in_err-second.ensures.err.1)
