use Rattle.std.proofs.Common.{◌≡◌, ◌∙◌, [], ap, arith, map}
use Rattle.std.specs.Prelude.{replicate}
use Rattle.trace_queue.proofs.Sets.{holds_nothing}
use Rattle.trace_queue.proofs.queues.no_values.Goals as goal

pub returns : goal.returns
returns g c =
    let all : c.loop.counter ≡ c.args.traces = omega (arith, c.loop.auto.counter-end, c.loop-test.false) in
    holds_nothing c.args.traces (map (λ queue. queue.entries) c.loop.queues.items) (c.loop.invariant.items ∙ ap (λ n. replicate n []) all)
