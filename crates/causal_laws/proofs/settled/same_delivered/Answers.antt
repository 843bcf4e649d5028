-- Each delivered what the other did.
use Rattle.std.specs.Prelude.{reverse}
use Rattle.causal_base.specs.Past.{came, deliveries}
use Rattle.causal_base.proofs.CallerLemmas.{history_of_past}
use Rattle.causal_laws.proofs.Enabled.{settled_has}
use Rattle.causal_laws.proofs.settled.same_delivered.Goals as goal

pub returns-clause-among : goal.returns-clause-among
returns-clause-among c types events others history other basis other_basis settled other_settled same e = (
  (λ inside. settled_has types others other events history other_basis basis other_settled (λ x came. (same x).0 came) e inside),
  (λ inside. settled_has types events history others other basis other_basis settled (λ x came. (same x).1 came) e inside),
)

pub returns-clause-journal : goal.returns-clause-journal
returns-clause-journal c types journal other legal other_legal settled other_settled same e =
    let basis = history_of_past types (reverse journal) legal in
    let other_basis = history_of_past types (reverse other) other_legal in
    let events = came (reverse journal) in
    let others = came (reverse other) in
    let history = deliveries (reverse journal) in
    let delivered = deliveries (reverse other) in (
      (λ inside. settled_has types others delivered events history other_basis basis other_settled (λ x came. (same x).0 came) e inside),
      (λ inside. settled_has types events history others delivered basis other_basis settled (λ x came. (same x).1 came) e inside),
    )
