-- The walk among all deliveries is one among those of the beginning and those that the rest adds.
use Rattle.std.proofs.Common.{List, subst}
use Rattle.std.specs.Prelude.{reverse}
use Rattle.causal_base.specs.declared.event.Event.{Event}
use Rattle.causal_base.specs.Past.{deliveries}
use Rattle.causal_base.specs.Walks.{Walk}
use Rattle.causal_laws.proofs.Prefixes.{added, causal_with_added, delivered_with_added}
use Rattle.causal_laws.proofs.Earlier.{walk_back_all}
use Rattle.causal_laws.proofs.past.walk_stays_in_past.Goals as goal

pub returns : goal.returns
returns c types journal more legal e there a through walk =
    walk_back_all types (added types journal more legal) (deliveries (reverse journal)) (causal_with_added types journal more legal) through a e there
    (subst (λ (es : List Event). Walk types es a through e) (delivered_with_added types journal more legal) walk)
