use Rattle.std.proofs.Common.{◌≡◌, ◌+◌, suc, length, sym, ◌∙◌, subst, arith}
use Rattle.std.specs.List.{sum_by}
use Rattle.std.proofs.lemmas.List.Sums.{sum_by-cons}
use Rattle.causal_base.specs.Clusters.{numbers_below}
use Rattle.causal_base.specs.History.{count_on}
use Rattle.causal_base.specs.Journal.{delivered_by}
use Rattle.client_session.proofs.Replying.{delivered_few}
use Rattle.client_session.proofs.replies.count_delivered.Goals as goal

pub overflow_add-delivered : goal.overflow_add-delivered
overflow_add-delivered g c =
    let journal = c.traces-trace-end.ensures.stands.0 in
    let stands = c.traces-trace-end.ensures.stands.1 in
    let legal = g.B.Causal.legal c.args.book.now journal stands in
    let events = delivered_by journal in
    let so_far = c.loop-trace.invariant journal stands in
    let here = c.count-delivered.ensures journal stands in
    let sum : sum_by (λ t. count_on t events) (numbers_below (suc c.loop-trace.trace)) ≡ count_on c.loop-trace.trace events + sum_by (λ t. count_on t events) (numbers_below c.loop-trace.trace) = sum_by-cons (λ t. count_on t events) c.loop-trace.trace (numbers_below c.loop-trace.trace) in
    let most = c.delivered_are_counted.ensures.first (g.B.Causal.types c.args.book.now) journal legal (suc c.loop-trace.trace) in
    let few = delivered_few (g.B.Causal.types c.args.book.now) journal legal in
    let accepted = c.accepted-accepted.ensures journal stands in
    omega (arith, so_far, here, sum, most, few, accepted)

pub returns : goal.returns
returns g c journal stands =
    let legal = g.B.Causal.legal c.args.book.now journal stands in
    let end : c.loop-trace.trace ≡ (g.B.Causal.types c.args.book.now).traces = omega (arith, c.loop-trace-test.false, c.loop-trace.auto.trace-end, c.traces-trace-end.ensures.number) in
    c.loop-trace.invariant journal stands ∙ subst (λ n. sum_by (λ t. count_on t (delivered_by journal)) (numbers_below n) ≡ length (delivered_by journal)) (sym end) (c.delivered_are_counted.ensures.all (g.B.Causal.types c.args.book.now) journal legal)
