use Rattle.std.proofs.Common.{Option, IfNone, None, Some}
use Rattle.causal_base.specs.Fields.{IsNoId}
use Rattle.causal_base.proofs.IdTexts.{id_has_numbers, no_id_unsplit}
use Rattle.causal_base.proofs.fields.id_numbers.Goals as goal

-- what holds in any case holds for a `None`
if_none : {T : Type 0} (P : Type 0) (o : Option T) → P → IfNone o P
if_none P None h = h
if_none P (Some x) h = tt

pub returns-in_err-trace-clause-none : goal.returns-in_err-trace-clause-none
returns-in_err-trace-clause-none c = if_none _ _ (no_id_unsplit _ c.in_err-trace.ensures.none)

pub returns-in_err-number_of-clause-none : goal.returns-in_err-number_of-clause-none
returns-in_err-number_of-clause-none c = if_none (IsNoId c.args.bytes.now) _ (λ trace number id.
    c.in_err-number_of.ensures.none trace (id_has_numbers _ _ _ trace number c.in_ok-trace.ensures.found id).0)

pub returns-in_err-number_of-2-clause-none : goal.returns-in_err-number_of-2-clause-none
returns-in_err-number_of-2-clause-none c = if_none (IsNoId c.args.bytes.now) _ (λ trace number id.
    c.in_err-number_of-2.ensures.none number (id_has_numbers _ _ _ trace number c.in_ok-trace.ensures.found id).1)
