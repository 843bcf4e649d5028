use Rattle.std.proofs.Common.{refl, sym, ap, ◌∙◌, subst}
use Rattle.std.specs.Option.{option_copied}
use Rattle.std.proofs.lemmas.Bool.{eqb-true}
use Rattle.client_session.specs.Words.{LacksNextWord, behind}
use Rattle.client_session.proofs.WordLemmas.{lacks_empty, lacks_none, nil_from_length}
use Rattle.client_session.proofs.words.next_word.Goals as goal

pub returns-in_default-clause-err : goal.returns-in_default-clause-err
returns-in_default-clause-err c = (refl, lacks_none (option_copied c.args.others) (ap option_copied c.in_default.is))

pub returns-then-is_empty-clause-err : goal.returns-then-is_empty-clause-err
returns-then-is_empty-clause-err c =
    let word = c.first_word.result.0.now in
    let empty = nil_from_length word (eqb-true _ 0 (sym c.is_empty.ensures ∙ c.if-is_empty.true)) in (
      refl,
      subst (λ others. LacksNextWord (behind (option_copied others))) (sym c.in-Some.is)
          (lacks_empty c.in-Some.others.now word (option_copied c.first_word.result.1) c.first_word.ensures empty),
    )
