-- What each step keeps, the whole list has.
use Rattle.std.proofs.Common.{[], length, ◌≤◌, arith}
use Rattle.std.proofs.lemmas.List.Elements.{All-weaker}
use Rattle.causal_base.specs.Event.{IsFit}
use Rattle.causal_base.specs.Spelling.{spelling}
use Rattle.causal_base.specs.Types.{builtin_types}
use Rattle.workload.specs.Workload.{workload}
use Rattle.workload.proofs.Steps.{length-made}
use Rattle.workload.proofs.OwnIds.{workload_has_own_ids}
use Rattle.workload.proofs.MadeEvents.{IsMade, workload_is_made, made_is_fit, made_is_short}
use Rattle.workload.proofs.Histories.{workload_is_delivered}
use Rattle.workload.proofs.law.workload_goes_whole.Goals as goal

pub returns-clause-length : goal.returns-clause-length
returns-clause-length c n start traces = length-made n traces n [] start (omega arith) (omega arith)

pub returns-clause-own_ids : goal.returns-clause-own_ids
returns-clause-own_ids c n start traces = workload_has_own_ids n start traces

pub returns-clause-fit : goal.returns-clause-fit
returns-clause-fit c n start traces few some =
    All-weaker (IsMade n traces) (IsFit (builtin_types traces)) (made_is_fit n traces few) (workload n start traces) (workload_is_made n traces start some)

pub returns-clause-short : goal.returns-clause-short
returns-clause-short c n start traces few some few_traces =
    All-weaker (IsMade n traces) (λ e. length (spelling (builtin_types traces) e) ≤ 31) (made_is_short n traces few few_traces) (workload n start traces) (workload_is_made n traces start some)

pub returns-clause-causal : goal.returns-clause-causal
returns-clause-causal c n start traces some =
    let are = workload_is_delivered traces n start in
    (are.history, are.causal, λ e. (are.forth e, are.back e))
