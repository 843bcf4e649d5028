-- The history is one of the events that came.
use Rattle.std.specs.Prelude.{reverse}
use Rattle.causal_base.specs.Past.{came, deliveries}
use Rattle.causal_base.proofs.CallerLemmas.{history_of_past}
use Rattle.causal_laws.proofs.Enabled.{settled_has}
use Rattle.load_laws.proofs.taking.history_is_delivered.Goals as goal

pub returns : goal.returns
returns c types journal legal settled history causal all e =
    let events = came (reverse journal) in
    let basis = history_of_past types (reverse journal) legal in (
      (λ inside. basis.came_first e inside),
      (λ inside. settled_has types events (deliveries (reverse journal)) events history basis
          (record { fit = basis.fit; own_ids = basis.own_ids; causal = causal; came_first = λ x its. (all x).0 its })
          settled (λ x its. its) e ((all e).1 inside)),
    )
