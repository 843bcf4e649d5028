use Rattle.std.proofs.Common.{ℕ, List, Result, Ok, Err, sym, subst}
use Rattle.std.specs.Prelude.{IfNone, IfErr}
use Rattle.std.specs.Result.{result_ok}
use Rattle.causal_base.specs.declared.event_id.EventId.{EventId}
use Rattle.causal_base.specs.declared.fields.IdFault.{IdFault}
use Rattle.causal_base.specs.declared.limits.TheConstants.{MOST_TRACES}
use Rattle.causal_base.specs.Fields.{IsIdInRange, HasIdFault}
use Rattle.causal_base.proofs.CallerLemmas.{fault_excludes}
use Rattle.command_line.proofs.plan.id_word.Goals as goal

-- bytes with a fault are no id in range
no_id : (bytes : List ℕ) (result : Result EventId IdFault) → IfErr result (HasIdFault bytes MOST_TRACES) → IfNone (result_ok result) ((id : EventId) → IsIdInRange bytes MOST_TRACES id → ⊥)
no_id bytes (Ok id) fault = tt
no_id bytes (Err error) fault = λ id is. fault_excludes bytes MOST_TRACES id error is fault

pub returns-clause-none : goal.returns-clause-none
returns-clause-none c =
    subst (λ o. IfNone o ((id : EventId) → IsIdInRange c.args.word.now MOST_TRACES id → ⊥)) (sym c.ok.ensures.value)
    (no_id c.args.word.now c.id_of.result (subst (λ bytes. IfErr c.id_of.result (HasIdFault bytes MOST_TRACES)) c.as_bytes.ensures.value c.id_of.ensures.err))
