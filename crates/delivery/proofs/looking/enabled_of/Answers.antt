use Rattle.std.proofs.Common.{◌≡◌, ◌+◌, reverse, refl, sym, ◌∙◌, ap, subst, arith}
use Rattle.causal_base.specs.declared.block.Block.TheVariants.{One}
use Rattle.causal_base.specs.declared.event_id.EventId.{EventId}
use Rattle.causal_base.specs.History.{all_events, count_on, IsNextOfTrace}
use Rattle.causal_base.specs.Past.{came, deliveries, IsEnabledAmong}
use Rattle.causal_base.proofs.CallerLemmas.{count-le-most, enabled_event, enabled_from_ready, make_id, same_id}
use Rattle.delivery.proofs.Alone.{ready_alone}
use Rattle.delivery.proofs.looking.enabled_of.Goals as goal

pub overflow_add-id : goal.overflow_add-id
overflow_add-id c =
    let past = reverse c.args.journal.now in
    let most = count-le-most c.args.types.now (came past) (deliveries past) c.requires.history c.args.trace in
    omega (arith, most, c.delivered_on.ensures)

pub returns-in-Some-false-clause-some : goal.returns-in-Some-false-clause-some
returns-in-Some-false-clause-some c =
    let past = reverse c.args.journal.now in
    let types = c.args.types.now in
    let e = c.in-Some-false.ensures.some in
    let id = make_id c.args.trace (c.delivered_on.result + 1) in
    let trace = ap (λ (i : EventId). i.trace) e.2 in
    let number = ap (λ (i : EventId). i.number) e.2 in
    let next : IsNextOfTrace (all_events (deliveries past)) e.0 = number ∙ (ap (λ n. n + 1) c.delivered_on.ensures ∙ ap (λ t. count_on t (all_events (deliveries past)) + 1) (sym trace)) in
    let ready = ready_alone types (all_events (deliveries past)) e.0 (c.requires.history.fit e.0 e.1) (sym e.3 ∙ c.in-Some-false.field-0-test) in (
      refl,
      subst (λ i. IsEnabledAmong types (came past) (deliveries past) (One i)) e.2
          (enabled_from_ready types (came past) (deliveries past) c.requires.history e.0 e.1 next ready),
    )

pub returns-in-None-clause-none : goal.returns-in-None-clause-none
returns-in-None-clause-none c block enabled on =
    let past = reverse c.args.journal.now in
    let e = enabled_event c.args.types.now (came past) (deliveries past) c.requires.history block enabled c.args.trace on in
    let number : e.0.id.number ≡ c.delivered_on.result + 1 = e.3 ∙ (ap (λ t. count_on t (all_events (deliveries past)) + 1) e.2 ∙ ap (λ n. n + 1) (sym c.delivered_on.ensures)) in
    c.in-None.ensures.none (e.0, e.1, same_id e.0.id (make_id c.args.trace (c.delivered_on.result + 1)) e.2 number)
