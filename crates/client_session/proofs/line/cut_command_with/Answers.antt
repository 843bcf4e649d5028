use Rattle.std.specs.Option.{option_copied}
use Rattle.client_session.specs.declared.own_words.CutWord.TheVariants.{To, Back, Has}
use Rattle.client_session.specs.Words.{behind}
use Rattle.client_session.proofs.FormLemmas.{cut_exit}
use Rattle.client_session.proofs.line.cut_command_with.Goals as goal

pub returns-in_err-one_id-in-To-clause-err : goal.returns-in_err-one_id-in-To-clause-err
returns-in_err-one_id-in-To-clause-err c =
    cut_exit c.args.types.now.traces (behind (option_copied c.args.others)) c.from_residual-in_err-one_id-in-To.result c.in_err-one_id-in-To.field-0.0 c.args.second To
    c.from_residual-in_err-one_id-in-To.ensures.1 c.in-To.is c.in_err-one_id-in-To.ensures.err

pub returns-in_err-one_id-in-Back-clause-err : goal.returns-in_err-one_id-in-Back-clause-err
returns-in_err-one_id-in-Back-clause-err c =
    cut_exit c.args.types.now.traces (behind (option_copied c.args.others)) c.from_residual-in_err-one_id-in-Back.result c.in_err-one_id-in-Back.field-0.0 c.args.second Back
    c.from_residual-in_err-one_id-in-Back.ensures.1 c.in-Back.is c.in_err-one_id-in-Back.ensures.err

pub returns-in_err-one_id-in-Has-clause-err : goal.returns-in_err-one_id-in-Has-clause-err
returns-in_err-one_id-in-Has-clause-err c =
    cut_exit c.args.types.now.traces (behind (option_copied c.args.others)) c.from_residual-in_err-one_id-in-Has.result c.in_err-one_id-in-Has.field-0.0 c.args.second Has
    c.from_residual-in_err-one_id-in-Has.ensures.1 c.in-Has.is c.in_err-one_id-in-Has.ensures.err
