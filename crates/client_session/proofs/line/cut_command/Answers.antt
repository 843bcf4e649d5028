use Rattle.std.proofs.Common.{ℕ, Bool, List, sym, subst}
use Rattle.std.specs.Prelude.{codes}
use Rattle.std.specs.Option.{option_copied}
use Rattle.std.proofs.lemmas.Result.{IfErr-weaker}
use Rattle.causal_base.specs.Refusals.{IsFirst}
use Rattle.client_session.specs.Scripts.{IsWordsCause}
use Rattle.client_session.specs.Words.{AreOthers, behind, cut_arguments, words_faults}
use Rattle.client_session.proofs.Exits.{if_err_from}
use Rattle.client_session.proofs.FormLemmas.{cut_cause, cut_lacks, cut_unknown}
use Rattle.client_session.proofs.line.cut_command.Goals as goal

pub returns-in_err-second-clause-err : goal.returns-in_err-second-clause-err
returns-in_err-second-clause-err c =
    let traces = c.args.types.now.traces in
    let bytes = behind (option_copied c.args.others) in
    let cause = c.in_err-second.field-0.0 in
    if_err_from (λ cause. (closing : Bool) (words : List (List ℕ)) → AreOthers bytes words → IsWordsCause traces closing (codes "cut") words cause)
    c.from_residual.result cause c.from_residual.ensures.1
    (λ closing words are. subst (IsWordsCause traces closing (codes "cut") words) (sym c.in_err-second.ensures.err.0) (cut_lacks traces closing bytes c.in_err-second.ensures.err.1 words are))

pub returns-in-Some-clause-err : goal.returns-in-Some-clause-err
returns-in-Some-clause-err c =
    let traces = c.args.types.now.traces in
    let bytes = behind (option_copied c.args.others) in
    let second = c.in-Some.second in
    let rest = option_copied c.in_ok-second.others in
    IfErr-weaker c.cut_command_with.result (λ cause. (words : List (List ℕ)) → AreOthers (behind rest) words → IsFirst (words_faults traces (cut_arguments second) words) cause)
    (λ cause. (closing : Bool) (words : List (List ℕ)) → AreOthers bytes words → IsWordsCause traces closing (codes "cut") words cause)
    (λ cause wrong closing. cut_cause traces closing bytes c.in_ok-second.second.now rest c.in_ok-second.ensures.ok second cause c.in-Some.ensures.some wrong)
    c.cut_command_with.ensures.err

pub returns-in-None-clause-err : goal.returns-in-None-clause-err
returns-in-None-clause-err c closing =
    cut_unknown c.args.types.now.traces closing (behind (option_copied c.args.others)) c.in_ok-second.second.now (option_copied c.in_ok-second.others) c.in_ok-second.ensures.ok c.in-None.ensures.none
