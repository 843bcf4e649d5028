use Rattle.std.proofs.Common.{subst}
use Rattle.causal_base.specs.Fields.{HasIdFault, NamesNoNumber}
use Rattle.client_session.proofs.FormLemmas.{bad_number_first}
use Rattle.client_session.proofs.arguments.id_in.Goals as goal

pub returns-in-Err-BadNumber-clause-err : goal.returns-in-Err-BadNumber-clause-err
returns-in-Err-BadNumber-clause-err c =
    let fault = subst (HasIdFault c.args.word.now c.traces.result) c.in-Err-BadNumber.field-0-is c.in-Err-BadNumber.ensures.err in
    bad_number_first c.args.types.now.traces c.args.word.now (subst (NamesNoNumber c.args.word.now) c.traces.ensures.number fault)
