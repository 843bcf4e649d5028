use Rattle.std.proofs.Common.{ℕ, List, [], ◌∷◌, ◌++◌, refl}
use Rattle.std.specs.Option.{option_copied}
use Rattle.causal_base.specs.Refusals.{IsFirst}
use Rattle.causal_base.proofs.CallerLemmas.{first_of_more, first_of_some}
use Rattle.client_session.specs.Scripts.{AnId, ATrace, id_faults, trace_faults}
use Rattle.client_session.specs.Words.{AreOthers, behind, words_faults}
use Rattle.client_session.proofs.Exits.{if_err_from}
use Rattle.client_session.proofs.FormLemmas.{id_has_none, words_fault}
use Rattle.client_session.proofs.arguments.id_and_trace.Goals as goal

pub returns-in_err-id-clause-err : goal.returns-in_err-id-clause-err
returns-in_err-id-clause-err c =
    let traces = c.args.types.now.traces in
    let bytes = behind (option_copied c.args.others) in
    let first = c.in_ok-first.first.now in
    let second = c.in_ok-first.second.now in
    let cause = c.in_err-id.field-0.0 in
    if_err_from (λ cause. (words : List (List ℕ)) → AreOthers bytes words → IsFirst (words_faults traces (AnId ∷ ATrace ∷ []) words) cause)
    c.from_residual-in_err-id.result cause c.from_residual-in_err-id.ensures.1
    (words_fault traces (AnId ∷ ATrace ∷ []) bytes (first ∷ second ∷ []) cause refl c.in_ok-first.ensures.ok (first_of_some (id_faults traces first) (trace_faults traces second ++ []) cause c.in_err-id.ensures.err))

pub returns-in_err-trace-clause-err : goal.returns-in_err-trace-clause-err
returns-in_err-trace-clause-err c =
    let traces = c.args.types.now.traces in
    let bytes = behind (option_copied c.args.others) in
    let first = c.in_ok-first.first.now in
    let second = c.in_ok-first.second.now in
    let cause = c.in_err-trace.field-0.0 in
    if_err_from (λ cause. (words : List (List ℕ)) → AreOthers bytes words → IsFirst (words_faults traces (AnId ∷ ATrace ∷ []) words) cause)
    c.from_residual-in_err-trace.result cause c.from_residual-in_err-trace.ensures.1
    (words_fault traces (AnId ∷ ATrace ∷ []) bytes (first ∷ second ∷ []) cause refl c.in_ok-first.ensures.ok
    (first_of_more (id_faults traces first) (trace_faults traces second ++ []) cause (id_has_none traces first c.in_ok-id.id c.in_ok-id.ensures.ok)
    (first_of_some (trace_faults traces second) [] cause c.in_err-trace.ensures.err)))
