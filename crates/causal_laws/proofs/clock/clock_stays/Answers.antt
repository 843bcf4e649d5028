-- The deliveries that the rest of the journal adds leave the clock as it is.
use Rattle.std.proofs.Common.{List, sym, subst}
use Rattle.std.specs.Prelude.{reverse}
use Rattle.causal_base.specs.declared.event.Event.{Event}
use Rattle.causal_base.specs.Clocks.{IsClock}
use Rattle.causal_base.specs.Past.{deliveries}
use Rattle.causal_laws.proofs.Prefixes.{added, causal_with_added, delivered_with_added}
use Rattle.causal_laws.proofs.Clocks.{clock_grows, clock_back}
use Rattle.causal_laws.proofs.clock.clock_stays.Goals as goal

pub returns : goal.returns
returns c types journal more legal e there trace n =
    let same = delivered_with_added types journal more legal in
    let newer = added types journal more legal in
    let causal = causal_with_added types journal more legal in
    let ds = deliveries (reverse journal) in (
      (λ clock. subst (λ (es : List Event). IsClock types es e trace n) (sym same) (clock_grows types newer ds causal e there trace n clock)),
      (λ clock. clock_back types newer ds causal e there trace n (subst (λ (es : List Event). IsClock types es e trace n) same clock)),
    )
