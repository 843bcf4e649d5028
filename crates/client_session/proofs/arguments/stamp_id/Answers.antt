use Rattle.std.proofs.Common.{◌≡◌, ℕ, List, [], ◌∷◌, true, false, refl, sym, ◌∙◌}
use Rattle.std.specs.Prelude.{codes}
use Rattle.std.specs.Option.{option_copied}
use Rattle.std.proofs.lemmas.Result.{IfErr-weaker}
use Rattle.causal_base.specs.Refusals.{IsFirst}
use Rattle.causal_base.proofs.CallerLemmas.{first_of_some}
use Rattle.client_session.specs.Scripts.{AnId, Form, id_faults, one_word}
use Rattle.client_session.specs.Words.{AreOthers, behind, written_faults}
use Rattle.client_session.proofs.FormLemmas.{closing_fault, form_fault, words_fault}
use Rattle.client_session.proofs.arguments.stamp_id.Goals as goal

pub returns-then-closing-clause-err : goal.returns-then-closing-clause-err
returns-then-closing-clause-err c =
    closing_fault c.args.types.now.traces c.args.closing (behind (option_copied c.args.others)) c.in_ok-word.word.now c.if-closing.true c.in_ok-word.ensures.ok

pub returns-clause-err : goal.returns-clause-err
returns-clause-err c =
    let traces = c.args.types.now.traces in
    let bytes = behind (option_copied c.args.others) in
    let word = c.in_ok-word.word.now in
    let is_open = c.if-closing.false in
    let form : Form = one_word (codes "stamp") (AnId ∷ []) in
    IfErr-weaker c.id_in.result (IsFirst (id_faults traces word)) (λ cause. (words : List (List ℕ)) → AreOthers bytes words → IsFirst (written_faults traces c.args.closing form words) cause)
    (λ cause first words are. form_fault traces c.args.closing form words cause (λ both. let clash : true ≡ false = sym both.0 ∙ is_open in cc)
    (words_fault traces (AnId ∷ []) bytes (word ∷ []) cause refl c.in_ok-word.ensures.ok (first_of_some (id_faults traces word) [] cause first) words are))
    c.id_in.ensures.err
