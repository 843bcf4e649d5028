use Rattle.std.proofs.Common.{subst}
use Rattle.std.specs.Prelude.{Contains}
use Rattle.std.proofs.lemmas.Bool.{eqb-true}
use Rattle.raw_reader.proofs.FirstFaults.{spelled_has_no_cause}
use Rattle.raw_reader.proofs.Spelled.{spelling_one_line}
use Rattle.raw_reader.proofs.event.event_of.Goals as goal

pub returns-in_default-clause-one_line : goal.returns-in_default-clause-one_line
returns-in_default-clause-one_line c e fit = spelling_one_line c.args.types.now e c.parts_of.ensures.table fit

pub returns-in_default-clause-none : goal.returns-in_default-clause-none
returns-in_default-clause-none c e fit spelled =
    spelled_has_no_cause c.args.types.now c.args.line.now e c.in_default.field-0 c.parts_of.ensures.table fit spelled c.in_default.ensures.err

pub returns-then-contains-clause-one_line : goal.returns-then-contains-clause-one_line
returns-then-contains-clause-one_line c e fit = spelling_one_line c.args.types.now e c.parts_of.ensures.table fit

pub returns-then-contains-clause-none : goal.returns-then-contains-clause-none
returns-then-contains-clause-none c e fit spelled =
    let at = c.if-contains.ensures.cases in
    let has : Contains c.args.line.now 10 = (at.0, at.1, eqb-true _ 10 (at.2 10)) in
    spelling_one_line c.args.types.now e c.parts_of.ensures.table fit (subst (λ bytes. Contains bytes 10) spelled has)

pub returns-in_err-event_from_parts-clause-one_line : goal.returns-in_err-event_from_parts-clause-one_line
returns-in_err-event_from_parts-clause-one_line c e fit = spelling_one_line c.args.types.now e c.parts_of.ensures.table fit

pub returns-clause-one_line : goal.returns-clause-one_line
returns-clause-one_line c e fit = spelling_one_line c.args.types.now e c.parts_of.ensures.table fit
