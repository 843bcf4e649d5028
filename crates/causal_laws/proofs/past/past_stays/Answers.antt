-- Walks to the event are the same among all deliveries and among those of the beginning.
use Rattle.std.proofs.Common.{List, sym, subst}
use Rattle.std.specs.Prelude.{reverse}
use Rattle.causal_base.specs.declared.event.Event.{Event}
use Rattle.causal_base.specs.Past.{deliveries}
use Rattle.causal_base.specs.Walks.{Reaches}
use Rattle.causal_laws.proofs.Prefixes.{added, causal_with_added, delivered_with_added}
use Rattle.causal_laws.proofs.Earlier.{reaches_back_all, reaches_grows_all}
use Rattle.causal_laws.proofs.past.past_stays.Goals as goal

pub returns : goal.returns
returns c types journal more legal e there a =
    let same = delivered_with_added types journal more legal in
    let ds = deliveries (reverse journal) in (
      (λ reaches. reaches_back_all types (added types journal more legal) ds (causal_with_added types journal more legal) a e there
          (subst (λ (es : List Event). Reaches types es a e) same reaches)),
      (λ reaches. subst (λ (es : List Event). Reaches types es a e) (sym same)
          (reaches_grows_all types (added types journal more legal) ds a e reaches)),
    )
