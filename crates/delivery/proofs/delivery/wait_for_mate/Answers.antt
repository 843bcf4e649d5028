use Rattle.std.proofs.Common.{◌≡◌, ◌<◌, reverse, Some, sym, ◌∙◌, subst}
use Rattle.std.specs.Prelude.{Contains}
use Rattle.std.proofs.lemmas.Result.{on_ok_weaker}
use Rattle.causal_base.specs.declared.event_id.EventId.{EventId}
use Rattle.causal_base.specs.History.{count_on}
use Rattle.causal_base.specs.Past.{came, deliveries, delivered}
use Rattle.partner_match.specs.Waiting.{waiting_for}
use Rattle.delivery.proofs.Waits.{not_so_many}
use Rattle.delivery.proofs.delivery.wait_for_mate.Goals as goal

pub returns-in-Some-clause-waits : goal.returns-in-Some-clause-waits
returns-in-Some-clause-waits c =
    on_ok_weaker c.wait_for.result (λ waits mate names absent.
    let past = reverse c.args.journal.now in
    let both : Some c.in-Some.mate ≡ Some mate = sym c.in-Some.is ∙ names in
    let same : c.in-Some.mate ≡ mate = cc in
    let fewer = not_so_many c.args.types.now (came past) (deliveries past) c.requires.history c.args.event.now c.requires.fit mate names absent in
    subst (λ (i : EventId). Contains (waiting_for c.wait_for.new.waiting i) c.args.event.now.id.trace) same
    (waits (subst (λ (i : EventId). count_on i.trace (delivered past) < i.number) (sym same) fewer))) c.wait_for.ensures.waits
