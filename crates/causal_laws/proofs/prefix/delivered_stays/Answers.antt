-- The events delivered by the beginning stand behind those that the rest adds.
use Rattle.std.proofs.Common.{sym, subst}
use Rattle.std.specs.Prelude.{Contains, reverse}
use Rattle.causal_base.specs.Past.{deliveries}
use Rattle.causal_laws.proofs.Prefixes.{added, delivered_with_added, Contains-grows}
use Rattle.causal_laws.proofs.prefix.delivered_stays.Goals as goal

pub returns : goal.returns
returns c types journal more legal e there =
    subst (λ es. Contains es e) (sym (delivered_with_added types journal more legal))
    (Contains-grows (added types journal more legal) (deliveries (reverse journal)) e there)
