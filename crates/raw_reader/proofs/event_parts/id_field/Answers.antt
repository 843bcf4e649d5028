use Rattle.std.proofs.Common.{sym, subst}
use Rattle.causal_base.specs.Refusals.{IsFirst}
use Rattle.raw_reader.specs.Causes.{id_faults}
use Rattle.raw_reader.proofs.FirstFaults.{id_first}
use Rattle.raw_reader.proofs.event_parts.id_field.Goals as goal

pub returns-in-Err-clause-err : goal.returns-in-Err-clause-err
returns-in-Err-clause-err c =
    subst (IsFirst (id_faults c.args.traces c.args.field.now)) (sym c.cause_of_id.ensures) (id_first c.args.traces c.args.field.now c.in-Err.fault c.in-Err.ensures.err)
