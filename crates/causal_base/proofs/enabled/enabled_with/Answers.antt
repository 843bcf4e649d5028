use Rattle.std.proofs.Common.{◌≡◌, inl, inr, refl, sym, ◌∙◌, ap, subst, arith, true, false}
use Rattle.causal_base.specs.declared.block.Block.TheVariants.{Two}
use Rattle.causal_base.specs.declared.event_id.EventId.{EventId}
use Rattle.causal_base.specs.Past.{IsEnabledAmong}
use Rattle.causal_base.proofs.Ready.{enabled_from_ready}
use Rattle.causal_base.proofs.Partners.{enabled_with, enabled_pair}
use Rattle.causal_base.proofs.enabled.enabled_with.Goals as goal

pub returns-then-event-partner-clause-some : goal.returns-then-event-partner-clause-some
returns-then-event-partner-clause-some g c =
    let types = c.args.types.now in
    let came = g.A.Accepted.came c.args.accepted.now in
    let history = g.A.Accepted.history c.args.accepted.now in
    let event = c.args.event.now in
    let p = c.in-Some.ensures.some in (
      inl refl,
      elim (enabled_pair types came history c.requires.history event p.0 c.requires.came p.2 c.requires.next p.4 p.3) [
        | inl first ↦ subst (λ i. IsEnabledAmong types came history (Two event.id i)) p.1 first.1
        | inr second ↦ (let trace = ap (λ (i : EventId). i.trace) p.1 in absurd (omega (arith, second.0, trace, c.if-event-partner.true)))
      ],
    )

pub returns-in-Some-clause-some : goal.returns-in-Some-clause-some
returns-in-Some-clause-some g c =
    let types = c.args.types.now in
    let came = g.A.Accepted.came c.args.accepted.now in
    let history = g.A.Accepted.history c.args.accepted.now in
    let event = c.args.event.now in
    let p = c.in-Some.ensures.some in (
      inr refl,
      elim (enabled_pair types came history c.requires.history event p.0 c.requires.came p.2 c.requires.next p.4 p.3) [
        | inl first ↦ (let trace = ap (λ (i : EventId). i.trace) p.1 in absurd (omega (arith, first.0, trace, c.if-event-partner.false)))
        | inr second ↦ subst (λ i. IsEnabledAmong types came history (Two i event.id)) p.1 second.1
      ],
    )

pub returns-then-is_ready-clause-some : goal.returns-then-is_ready-clause-some
returns-then-is_ready-clause-some g c =
    (refl, enabled_from_ready c.args.types.now (g.A.Accepted.came c.args.accepted.now) (g.A.Accepted.history c.args.accepted.now) c.requires.history c.args.event.now c.requires.came c.requires.next (c.is_ready.ensures.0 c.if-is_ready.true))

pub returns-else-is_ready-clause-none : goal.returns-else-is_ready-clause-none
returns-else-is_ready-clause-none g c block enabled on =
    elim (enabled_with c.args.types.now (g.A.Accepted.came c.args.accepted.now) (g.A.Accepted.history c.args.accepted.now) c.requires.history c.args.event.now c.requires.came c.requires.next block enabled on) [
      | inl ready ↦ (let clash : true ≡ false = sym (c.is_ready.ensures.1 ready) ∙ c.if-is_ready.false in cc)
      | inr p ↦ c.in_default.ensures.none p.0 p.1 p.2 p.3
    ]
