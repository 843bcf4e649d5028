use Rattle.std.proofs.Common.{ℕ, List, [], ◌∷◌, refl}
use Rattle.std.specs.Option.{option_copied}
use Rattle.std.proofs.lemmas.Result.{IfErr-weaker}
use Rattle.causal_base.specs.Refusals.{IsFirst}
use Rattle.causal_base.proofs.CallerLemmas.{first_of_some}
use Rattle.client_session.specs.Scripts.{AnId, id_faults}
use Rattle.client_session.specs.Words.{AreOthers, behind, words_faults}
use Rattle.client_session.proofs.FormLemmas.{words_fault}
use Rattle.client_session.proofs.arguments.one_id.Goals as goal

pub returns-clause-err : goal.returns-clause-err
returns-clause-err c =
    let traces = c.args.types.now.traces in
    let bytes = behind (option_copied c.args.others) in
    let word = c.in_ok-word.word.now in
    IfErr-weaker c.id_in.result (IsFirst (id_faults traces word)) (λ cause. (words : List (List ℕ)) → AreOthers bytes words → IsFirst (words_faults traces (AnId ∷ []) words) cause)
    (λ cause first. words_fault traces (AnId ∷ []) bytes (word ∷ []) cause refl c.in_ok-word.ensures.ok (first_of_some (id_faults traces word) [] cause first))
    c.id_in.ensures.err
