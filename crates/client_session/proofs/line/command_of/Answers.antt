use Rattle.std.proofs.Common.{ℕ, List, refl}
use Rattle.std.specs.Option.{option_copied}
use Rattle.std.proofs.lemmas.Result.{IfErr-weaker}
use Rattle.client_session.specs.declared.script_error.ScriptCause.TheVariants.{NoCommand}
use Rattle.client_session.specs.Scripts.{IsWordsCause}
use Rattle.client_session.specs.Words.{AreOthers, HasWordsCause, behind, first_text}
use Rattle.client_session.proofs.FormLemmas.{line_cause, no_command}
use Rattle.client_session.proofs.line.command_of.Goals as goal

pub returns-in-Some-clause-err : goal.returns-in-Some-clause-err
returns-in-Some-clause-err c =
    let traces = c.args.types.now.traces in
    let word = first_text c.in-Some.first in
    let others = option_copied c.first_word.result.1 in
    IfErr-weaker c.command_with.result (λ cause. (words : List (List ℕ)) → AreOthers (behind others) words → IsWordsCause traces c.args.closing word words cause) (HasWordsCause traces c.args.closing c.args.line.now)
    (λ cause wrong. line_cause traces c.args.closing c.args.line.now c.first_word.result.0.now word others cause c.first_word.ensures c.in-Some.ensures.some wrong)
    c.command_with.ensures.err

pub returns-in-None-clause-err : goal.returns-in-None-clause-err
returns-in-None-clause-err c =
    let traces = c.args.types.now.traces in
    let word = c.first_word.result.0.now in
    line_cause traces c.args.closing c.args.line.now word word (option_copied c.first_word.result.1) NoCommand c.first_word.ensures refl
    (λ words are. no_command traces c.args.closing word words c.in-None.ensures.none)
