use Rattle.std.proofs.Common.{◌≡◌, ◌+◌, sym, ◌∙◌, ap, arith}
use Rattle.causal_base.specs.History.{all_events, count_on}
use Rattle.causal_base.proofs.Ids.{make_id, same_id}
use Rattle.causal_base.proofs.Ready.{count-le-most}
use Rattle.causal_base.proofs.Partners.{enabled_event}
use Rattle.causal_base.proofs.enabled.enabled_on.Goals as goal

pub overflow_add-id : goal.overflow_add-id
overflow_add-id g c =
    let most = count-le-most c.args.types.now (g.A.Accepted.came c.args.accepted.now) (g.A.Accepted.history c.args.accepted.now) c.requires.history c.args.trace in
    omega (arith, most, c.delivered_on.ensures)

pub returns-in-None-clause-none : goal.returns-in-None-clause-none
returns-in-None-clause-none g c block enabled on =
    let came = g.A.Accepted.came c.args.accepted.now in
    let history = g.A.Accepted.history c.args.accepted.now in
    let e = enabled_event c.args.types.now came history c.requires.history block enabled c.args.trace on in
    let number : e.0.id.number ≡ c.delivered_on.result + 1 = e.3 ∙ (ap (λ t. count_on t (all_events history) + 1) e.2 ∙ ap (λ n. n + 1) (sym c.delivered_on.ensures)) in
    c.in-None.ensures.none (e.0, e.1, same_id e.0.id (make_id c.args.trace (c.delivered_on.result + 1)) e.2 number)
