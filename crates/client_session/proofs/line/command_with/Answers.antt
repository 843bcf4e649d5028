use Rattle.std.proofs.Common.{ℕ, List, [], ◌∷◌, inl, refl, sym, subst, arith}
use Rattle.std.specs.Prelude.{codes}
use Rattle.std.specs.Option.{option_copied}
use Rattle.std.proofs.lemmas.Result.{IfErr-weaker, IfOk-weaker}
use Rattle.client_session.specs.declared.own_words.FirstWord.TheVariants.{Before, Relation, Event, Stamp, GreatestBefore, LeastAfter, Count, Await}
use Rattle.client_session.specs.Scripts.{AnId, ATrace, IsWordsCause}
use Rattle.client_session.specs.Words.{AreOthers, behind, first_text}
use Rattle.client_session.proofs.FormLemmas.{first_exit, plain_exit}
use Rattle.client_session.proofs.Forms.{differ}
use Rattle.client_session.proofs.line.command_with.Goals as goal

pub returns-in_err-a-in-Before-clause-err : goal.returns-in_err-a-in-Before-clause-err
returns-in_err-a-in-Before-clause-err c =
    plain_exit c.args.types.now.traces c.args.closing (behind (option_copied c.args.others)) c.from_residual.result c.in_err-a-in-Before.field-0.0 c.args.first Before (AnId ∷ AnId ∷ [])
    c.from_residual.ensures.1 c.in-Before.is (0, omega arith, refl) (differ (codes "before") (codes "stamp") refl) c.in_err-a-in-Before.ensures.err

pub returns-in_err-a-in-Relation-clause-err : goal.returns-in_err-a-in-Relation-clause-err
returns-in_err-a-in-Relation-clause-err c =
    plain_exit c.args.types.now.traces c.args.closing (behind (option_copied c.args.others)) c.from_residual-in_err-a-in-Relation.result c.in_err-a-in-Relation.field-0.0 c.args.first Relation (AnId ∷ AnId ∷ [])
    c.from_residual-in_err-a-in-Relation.ensures.1 c.in-Relation.is (1, omega arith, refl) (differ (codes "relation") (codes "stamp") refl) c.in_err-a-in-Relation.ensures.err

pub returns-in_err-one_id-in-Event-clause-err : goal.returns-in_err-one_id-in-Event-clause-err
returns-in_err-one_id-in-Event-clause-err c =
    plain_exit c.args.types.now.traces c.args.closing (behind (option_copied c.args.others)) c.from_residual-in_err-one_id-in-Event.result c.in_err-one_id-in-Event.field-0.0 c.args.first Event (AnId ∷ [])
    c.from_residual-in_err-one_id-in-Event.ensures.1 c.in-Event.is (2, omega arith, refl) (differ (codes "event") (codes "stamp") refl) c.in_err-one_id-in-Event.ensures.err

pub returns-in_err-stamp_id-in-Stamp-clause-err : goal.returns-in_err-stamp_id-in-Stamp-clause-err
returns-in_err-stamp_id-in-Stamp-clause-err c =
    first_exit c.args.types.now.traces c.args.closing (behind (option_copied c.args.others)) c.from_residual-in_err-stamp_id-in-Stamp.result c.in_err-stamp_id-in-Stamp.field-0.0 c.args.first Stamp (AnId ∷ [])
    c.from_residual-in_err-stamp_id-in-Stamp.ensures.1 c.in-Stamp.is (3, omega arith, refl) c.in_err-stamp_id-in-Stamp.ensures.err

pub returns-in_err-id-in-GreatestBefore-clause-err : goal.returns-in_err-id-in-GreatestBefore-clause-err
returns-in_err-id-in-GreatestBefore-clause-err c =
    plain_exit c.args.types.now.traces c.args.closing (behind (option_copied c.args.others)) c.from_residual-in_err-id-in-GreatestBefore.result c.in_err-id-in-GreatestBefore.field-0.0 c.args.first GreatestBefore (AnId ∷ ATrace ∷ [])
    c.from_residual-in_err-id-in-GreatestBefore.ensures.1 c.in-GreatestBefore.is (4, omega arith, refl) (differ (codes "gp") (codes "stamp") refl) c.in_err-id-in-GreatestBefore.ensures.err

pub returns-in_err-id-in-LeastAfter-clause-err : goal.returns-in_err-id-in-LeastAfter-clause-err
returns-in_err-id-in-LeastAfter-clause-err c =
    plain_exit c.args.types.now.traces c.args.closing (behind (option_copied c.args.others)) c.from_residual-in_err-id-in-LeastAfter.result c.in_err-id-in-LeastAfter.field-0.0 c.args.first LeastAfter (AnId ∷ ATrace ∷ [])
    c.from_residual-in_err-id-in-LeastAfter.ensures.1 c.in-LeastAfter.is (5, omega arith, refl) (differ (codes "ls") (codes "stamp") refl) c.in_err-id-in-LeastAfter.ensures.err

pub returns-in_err-one_id-in-Await-clause-err : goal.returns-in_err-one_id-in-Await-clause-err
returns-in_err-one_id-in-Await-clause-err c =
    plain_exit c.args.types.now.traces c.args.closing (behind (option_copied c.args.others)) c.from_residual-in_err-one_id-in-Await.result c.in_err-one_id-in-Await.field-0.0 c.args.first Await (AnId ∷ [])
    c.from_residual-in_err-one_id-in-Await.ensures.1 c.in-Await.is (12, omega arith, refl) (differ (codes "await") (codes "stamp") refl) c.in_err-one_id-in-Await.ensures.err

pub returns-in_err-no_words-in-Count-clause-err : goal.returns-in_err-no_words-in-Count-clause-err
returns-in_err-no_words-in-Count-clause-err c =
    let wrong = c.in_err-no_words-in-Count.ensures.err in
    plain_exit c.args.types.now.traces c.args.closing (behind (option_copied c.args.others)) c.from_residual-in_err-no_words-in-Count.result c.in_err-no_words-in-Count.field-0.0 c.args.first Count []
    c.from_residual-in_err-no_words-in-Count.ensures.1 c.in-Count.is (11, omega arith, refl) (differ (codes "count") (codes "stamp") refl) (λ words are. inl (wrong.1 words are, wrong.0))

pub returns-in-Cut-clause-may_stand : goal.returns-in-Cut-clause-may_stand
returns-in-Cut-clause-may_stand c = IfOk-weaker c.cut_command.result _ _ (λ command may. may c.args.closing) c.cut_command.ensures.may_stand

pub returns-in-Cut-clause-err : goal.returns-in-Cut-clause-err
returns-in-Cut-clause-err c =
    let traces = c.args.types.now.traces in
    let bytes = behind (option_copied c.args.others) in
    IfErr-weaker c.cut_command.result _ (λ cause. (words : List (List ℕ)) → AreOthers bytes words → IsWordsCause traces c.args.closing (first_text c.args.first) words cause)
    (λ cause wrong. subst (λ word. (words : List (List ℕ)) → AreOthers bytes words → IsWordsCause traces c.args.closing (first_text word) words cause) (sym c.in-Cut.is) (wrong c.args.closing))
    c.cut_command.ensures.err
