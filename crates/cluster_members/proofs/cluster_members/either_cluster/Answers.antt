use Rattle.std.proofs.Common.{◌≡◌, ℕ, [], ◌∷◌, ◌++◌, List, length, Bool, sym, ◌∙◌, ap, subst, arith, rules}
use Rattle.std.specs.Prelude.{◌||◌}
use Rattle.std.specs.List.Sorted.{IsStrictlyIncreasing}
use Rattle.cluster_levels.specs.Levels.{same_in}
use Rattle.cluster_members.specs.Kept.{traces_that}
use Rattle.cluster_members.proofs.ClusterLists.{traces_that-no, traces_that-yes, traces_that-rise, traces_that-few}
use Rattle.cluster_members.proofs.cluster_members.either_cluster.Goals as goal
use Rattle.cluster_members.proofs.cluster_members.either_cluster.Goals.{then-shares_with_either+in_ok-push, else-shares_with_either}

pub loop-trace-preserved : goal.loop-trace-preserved
loop-trace-preserved c =
    let either : ℕ → Bool = λ trace. same_in c.args.levels.now c.args.level c.args.p trace || same_in c.args.levels.now c.args.level c.args.q trace in
    elim c.if-shares_with_either.branch [
      | then-shares_with_either+in_ok-push w ↦
          let pushed : w.push.new.self.items ≡ c.loop-trace.traces.items ++ c.loop-trace.trace ∷ [] = search rules in
          let more = traces_that-yes either c.loop-trace.trace (sym c.shares_with_either.ensures ∙ w.if-shares_with_either.true) in
          let so_far : c.loop-trace.traces.items ≡ traces_that either c.loop-trace.trace = c.loop-trace.invariant in
          cc (w.traces-is, pushed, so_far, more)
      | else-shares_with_either w ↦
          let more = traces_that-no either c.loop-trace.trace (sym c.shares_with_either.ensures ∙ w.if-shares_with_either.false) in
          let so_far : c.loop-trace.traces.items ≡ traces_that either c.loop-trace.trace = c.loop-trace.invariant in
          cc (w.traces-is, so_far, more)
    ]

pub new-requires-clause-rise : goal.new-requires-clause-rise
new-requires-clause-rise c =
    let either : ℕ → Bool = λ trace. same_in c.args.levels.now c.args.level c.args.p trace || same_in c.args.levels.now c.args.level c.args.q trace in
    let read : c.deref.result.now ≡ traces_that either c.loop-trace.trace = c.deref.ensures.value ∙ c.loop-trace.invariant in
    subst (λ (xs : List ℕ). IsStrictlyIncreasing xs) (sym read) (traces_that-rise either c.loop-trace.trace)

pub new-requires-clause-few : goal.new-requires-clause-few
new-requires-clause-few c =
    let either : ℕ → Bool = λ trace. same_in c.args.levels.now c.args.level c.args.p trace || same_in c.args.levels.now c.args.level c.args.q trace in
    let read : c.deref.result.now ≡ traces_that either c.loop-trace.trace = c.deref.ensures.value ∙ c.loop-trace.invariant in
    let long = ap (λ (xs : List ℕ). length xs) read in
    omega (arith, long, traces_that-few either c.loop-trace.trace, c.traces-trace-end.ensures.levels.most, c.traces-trace-end.ensures.number, c.loop-trace.auto.trace-end)
