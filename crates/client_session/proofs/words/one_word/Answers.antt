use Rattle.std.proofs.Common.{◌≡◌, ℕ, List}
use Rattle.std.specs.Option.{option_copied}
use Rattle.client_session.specs.declared.script_error.ScriptCause.TheVariants.{Shape}
use Rattle.client_session.specs.Words.{AreOthers, IsBadShape, behind}
use Rattle.client_session.proofs.Exits.{if_err_from}
use Rattle.client_session.proofs.WordLemmas.{next_shape}
use Rattle.client_session.proofs.words.one_word.Goals as goal

pub returns-in_err-no_words-clause-err : goal.returns-in_err-no_words-clause-err
returns-in_err-no_words-clause-err c =
    let bytes = behind (option_copied c.args.others) in
    if_err_from (λ cause. (cause ≡ Shape) × ((words : List (List ℕ)) → AreOthers bytes words → IsBadShape 1 words))
    c.from_residual-in_err-no_words.result c.in_err-no_words.field-0.0 c.from_residual-in_err-no_words.ensures.1
    (c.in_err-no_words.ensures.err.0, next_shape bytes c.in_ok-word.word.now (option_copied c.in_ok-word.others) 0 c.in_ok-word.ensures.ok c.in_err-no_words.ensures.err.1)
