use Rattle.std.proofs.Common.{◌≤◌, subst}
use Rattle.std.specs.Prelude.{reverse}
use Rattle.causal_base.specs.History.{count_on}
use Rattle.causal_base.specs.Journal.{delivered_by}
use Rattle.causal_base.proofs.CallerLemmas.{delivered_numbered, event_at, number_within}
use Rattle.causal_laws.proofs.number.delivered_are_numbered.Goals as goal

pub returns : goal.returns
returns c types journal legal trace number = (
  (λ within. event_at (delivered_by journal) (delivered_numbered types (reverse journal) legal) trace number within.0 within.1),
  (λ e.
      let its = number_within (delivered_by journal) (delivered_numbered types (reverse journal) legal) e.0 e.1 in
      let most = subst (λ t. e.0.id.number ≤ count_on t (delivered_by journal)) e.2 its.1 in
      (subst (λ n. 1 ≤ n) e.3 its.0, subst (λ n. n ≤ count_on trace (delivered_by journal)) e.3 most)),
)
