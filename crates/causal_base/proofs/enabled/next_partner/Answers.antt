use Rattle.std.proofs.Common.{◌≡◌, Some, sym, ◌∙◌, ap, subst, arith, true, false}
use Rattle.causal_base.specs.declared.event.Event.{Event}
use Rattle.causal_base.specs.declared.event_id.EventId.{EventId}
use Rattle.causal_base.specs.Event.{Pairs}
use Rattle.causal_base.specs.History.{all_events, count_on}
use Rattle.causal_base.proofs.Ready.{count-le-most, type_in_range, mate_in_range}
use Rattle.causal_base.proofs.enabled.next_partner.Goals as goal

pub pairs-requires-clause-first : goal.pairs-requires-clause-first
pairs-requires-clause-first g c =
    type_in_range c.args.types.now c.args.event.now (c.requires.history.fit c.args.event.now c.requires.came)

pub pairs-requires-clause-second : goal.pairs-requires-clause-second
pairs-requires-clause-second g c =
    type_in_range c.args.types.now c.in-Some-event.partner.now (c.requires.history.fit c.in-Some-event.partner.now c.in-Some-event.ensures.some.0)

pub delivered_on-requires : goal.delivered_on-requires
delivered_on-requires g c =
    let fit = c.requires.history.fit c.args.event.now c.requires.came in
    let range = mate_in_range c.args.types.now c.args.event.now c.in-Some.mate fit c.in-Some.is in
    omega (arith, range.trace, c.requires.table.most_traces)

pub overflow_add-delivered_on : goal.overflow_add-delivered_on
overflow_add-delivered_on g c =
    let most = count-le-most c.args.types.now (g.A.Accepted.came c.args.accepted.now) (g.A.Accepted.history c.args.accepted.now) c.requires.history c.in-Some.mate.trace in
    omega (arith, most, c.delivered_on.ensures)

pub returns-then-mate-delivered_on-clause-none : goal.returns-then-mate-delivered_on-clause-none
returns-then-mate-delivered_on-clause-none g c p there both next =
    let named : Some p.id ≡ Some c.in-Some.mate = sym both.forth ∙ c.in-Some.is in
    let its : p.id ≡ c.in-Some.mate = cc in
    let trace = ap (λ (i : EventId). count_on i.trace (all_events (g.A.Accepted.history c.args.accepted.now))) its in
    let number = ap (λ (i : EventId). i.number) its in
    absurd (omega (arith, next, trace, number, c.if-mate-delivered_on.true, c.delivered_on.ensures))

pub returns-else-pairs-clause-none : goal.returns-else-pairs-clause-none
returns-else-pairs-clause-none g c p there both next =
    let partner = c.in-Some-event.partner.now in
    let named : Some p.id ≡ Some c.in-Some.mate = sym both.forth ∙ c.in-Some.is in
    let its : p.id ≡ c.in-Some.mate = cc in
    let same : p ≡ partner = c.requires.history.own_ids p partner there c.in-Some-event.ensures.some.0 (its ∙ sym c.in-Some-event.ensures.some.1) in
    let yes = c.pairs.ensures.1 (subst (λ (v : Event). Pairs c.args.types.now c.args.event.now v) same both) in
    let clash : true ≡ false = sym yes ∙ c.if-pairs.false in
    absurd cc
