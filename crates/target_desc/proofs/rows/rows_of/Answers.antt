use Rattle.std.proofs.Common.{subst, List}
use Rattle.std.proofs.lemmas.Result.{IfOk-weaker}
use Rattle.target_desc.specs.declared.draft.Draft.{Draft}
use Rattle.target_desc.specs.Drafts.{AreMateNumbers}
use Rattle.target_desc.proofs.RowLemmas.{rows_from}
use Rattle.target_desc.proofs.rows.rows_of.Goals as goal

pub returns : goal.returns
returns c =
    let numbers = c.in_ok-mates.mates.items in
    let are = subst (λ (drafts : List Draft). AreMateNumbers drafts numbers) c.deref.ensures.value c.in_ok-mates.ensures in
    IfOk-weaker c.numbered.result _ _ (λ rows is. rows_from c.args.drafts.items numbers rows.items are is) c.numbered.ensures
