use Rattle.std.proofs.Common.{◌≡◌, ◌+◌, suc, length, refl, sym, ◌∙◌, subst, arith}
use Rattle.std.specs.List.{sum_by}
use Rattle.std.proofs.lemmas.List.Sums.{sum_by-cons}
use Rattle.causal_base.specs.Clusters.{numbers_below}
use Rattle.causal_base.specs.History.{count_on}
use Rattle.causal_base.specs.Journal.{delivered_by}
use Rattle.run_text.proofs.Delivered.{delivered_few}
use Rattle.run_text.proofs.counts.count_delivered.Goals as goal

pub overflow_add-delivered : goal.overflow_add-delivered
overflow_add-delivered c =
    let desk = c.args.desk.now in
    let legal = c.setup-setup.ensures.is_journal.legal in
    let events = delivered_by desk.journal in
    let here = c.count-delivered.ensures desk.journal (record { same = refl; legal = legal }) in
    let sum : sum_by (λ t. count_on t events) (numbers_below (suc c.loop-trace.trace)) ≡ count_on c.loop-trace.trace events + sum_by (λ t. count_on t events) (numbers_below c.loop-trace.trace) = sum_by-cons (λ t. count_on t events) c.loop-trace.trace (numbers_below c.loop-trace.trace) in
    let most = c.delivered_are_counted.ensures.first desk.setup.types desk.journal legal (suc c.loop-trace.trace) in
    let few = delivered_few desk.setup.types desk.journal legal in
    omega (arith, c.loop-trace.invariant, here, sum, most, few, c.count_accepted-accepted.ensures)

pub returns : goal.returns
returns c =
    let desk = c.args.desk.now in
    let legal = c.setup-setup.ensures.is_journal.legal in
    let end : c.loop-trace.trace ≡ desk.setup.types.traces = omega (arith, c.loop-trace-test.false, c.loop-trace.auto.trace-end, c.traces-trace-end.ensures.number) in
    c.loop-trace.invariant ∙ subst (λ n. sum_by (λ t. count_on t (delivered_by desk.journal)) (numbers_below n) ≡ length (delivered_by desk.journal)) (sym end) (c.delivered_are_counted.ensures.all desk.setup.types desk.journal legal)
