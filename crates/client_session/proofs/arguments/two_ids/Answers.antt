use Rattle.std.proofs.Common.{ℕ, List, [], ◌∷◌, ◌++◌, refl}
use Rattle.std.specs.Option.{option_copied}
use Rattle.causal_base.specs.Refusals.{IsFirst}
use Rattle.causal_base.proofs.CallerLemmas.{first_of_more, first_of_some}
use Rattle.client_session.specs.Scripts.{AnId, id_faults}
use Rattle.client_session.specs.Words.{AreOthers, behind, words_faults}
use Rattle.client_session.proofs.Exits.{if_err_from}
use Rattle.client_session.proofs.FormLemmas.{id_has_none, words_fault}
use Rattle.client_session.proofs.arguments.two_ids.Goals as goal

pub returns-in_err-first-2-clause-err : goal.returns-in_err-first-2-clause-err
returns-in_err-first-2-clause-err c =
    let traces = c.args.types.now.traces in
    let bytes = behind (option_copied c.args.others) in
    let first = c.in_ok-first.first.now in
    let second = c.in_ok-first.second.now in
    let cause = c.in_err-first-2.field-0.0 in
    if_err_from (λ cause. (words : List (List ℕ)) → AreOthers bytes words → IsFirst (words_faults traces (AnId ∷ AnId ∷ []) words) cause)
    c.from_residual-in_err-first-2.result cause c.from_residual-in_err-first-2.ensures.1
    (words_fault traces (AnId ∷ AnId ∷ []) bytes (first ∷ second ∷ []) cause refl c.in_ok-first.ensures.ok (first_of_some (id_faults traces first) (id_faults traces second ++ []) cause c.in_err-first-2.ensures.err))

pub returns-in_err-second-clause-err : goal.returns-in_err-second-clause-err
returns-in_err-second-clause-err c =
    let traces = c.args.types.now.traces in
    let bytes = behind (option_copied c.args.others) in
    let first = c.in_ok-first.first.now in
    let second = c.in_ok-first.second.now in
    let cause = c.in_err-second.field-0.0 in
    if_err_from (λ cause. (words : List (List ℕ)) → AreOthers bytes words → IsFirst (words_faults traces (AnId ∷ AnId ∷ []) words) cause)
    c.from_residual-in_err-second.result cause c.from_residual-in_err-second.ensures.1
    (words_fault traces (AnId ∷ AnId ∷ []) bytes (first ∷ second ∷ []) cause refl c.in_ok-first.ensures.ok
    (first_of_more (id_faults traces first) (id_faults traces second ++ []) cause (id_has_none traces first c.in_ok-first-2.first c.in_ok-first-2.ensures.ok)
    (first_of_some (id_faults traces second) [] cause c.in_err-second.ensures.err)))
