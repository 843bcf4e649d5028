use Rattle.std.proofs.Common.{◌≡◌, ◌≤◌, Some, sym, ◌∙◌, subst, arith}
use Rattle.causal_base.specs.declared.event_id.EventId.{EventId}
use Rattle.causal_base.specs.Event.{Fits}
use Rattle.causal_base.specs.History.{all_events, count_on}
use Rattle.causal_base.proofs.Ready.{delivered_from_number_among, number_from_delivered_among, cause_is_named, type_in_range, mate_in_range}
use Rattle.causal_base.proofs.enabled.is_delivered_cause.Goals as goal

pub delivered_on-requires : goal.delivered_on-requires
delivered_on-requires g c =
    let came = g.A.Accepted.came c.args.accepted.now in
    let history = g.A.Accepted.history c.args.accepted.now in
    let fit = c.requires.history.fit c.args.event.now c.requires.came in
    let range = mate_in_range c.args.types.now c.args.event.now c.args.mate fit c.requires.mate in
    omega (arith, range.trace, c.requires.table.most_traces)

pub fits-requires-clause-later : goal.fits-requires-clause-later
fits-requires-clause-later g c =
    type_in_range c.args.types.now c.args.event.now (c.requires.history.fit c.args.event.now c.requires.came)

pub fits-requires-clause-earlier : goal.fits-requires-clause-earlier
fits-requires-clause-earlier g c =
    type_in_range c.args.types.now c.in-Some.cause.now (c.requires.history.fit c.in-Some.cause.now c.in-Some.ensures.some.0)

pub returns-then-mate-delivered_on : goal.returns-then-mate-delivered_on
returns-then-mate-delivered_on g c =
    let types = c.args.types.now in
    let came = g.A.Accepted.came c.args.accepted.now in
    let history = g.A.Accepted.history c.args.accepted.now in (
      λ yes. absurd cc,
      λ found.
          let named : Some found.0.id ≡ Some c.args.mate = sym found.2.names ∙ c.requires.mate in
          let is : found.0.id ≡ c.args.mate = cc in
          let most = number_from_delivered_among types came history c.requires.history found.0 found.1 in
          let below = subst (λ (i : EventId). i.number ≤ count_on i.trace (all_events history)) is most in
          absurd (omega (arith, below, c.if-mate-delivered_on.true, c.delivered_on.ensures)),
    )

pub returns-in-Some : goal.returns-in-Some
returns-in-Some g c =
    let types = c.args.types.now in
    let came = g.A.Accepted.came c.args.accepted.now in
    let history = g.A.Accepted.history c.args.accepted.now in
    let cause = c.in-Some.cause.now in
    let there = c.in-Some.ensures.some.0 in
    let is = c.in-Some.ensures.some.1 in
    let most : c.args.mate.number ≤ count_on c.args.mate.trace (all_events history) = omega (arith, c.if-mate-delivered_on.false, c.delivered_on.ensures) in
    let gone = delivered_from_number_among types came history c.requires.history cause there (subst (λ (i : EventId). i.number ≤ count_on i.trace (all_events history)) (sym is) most) in (
      λ yes. (cause, gone, c.fits.ensures.0 yes),
      λ found. c.fits.ensures.1 (subst (Fits types c.args.event.now) (cause_is_named types came history c.requires.history c.args.event.now cause c.args.mate c.requires.mate there is found.0 found.1 found.2) found.2),
    )

pub returns-in-None : goal.returns-in-None
returns-in-None g c =
    let types = c.args.types.now in
    let came = g.A.Accepted.came c.args.accepted.now in
    let history = g.A.Accepted.history c.args.accepted.now in (
      λ yes. absurd cc,
      λ found.
          let x = found.0 in
          let named : Some x.id ≡ Some c.args.mate = sym found.2.names ∙ c.requires.mate in
          let is : x.id ≡ c.args.mate = cc in
          absurd (c.in-None.ensures.none (x, c.requires.history.came_first x found.1, is)),
    )
