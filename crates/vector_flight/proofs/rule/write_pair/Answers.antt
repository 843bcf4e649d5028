-- The rule for two events that are delivered together.
use Rattle.std.proofs.Common.{◌∙◌, ◌≡◌, ◌<◌, List, ℕ, length, ap, arith, length-set, max}
use Rattle.std.specs.Prelude.{slice_index}
use Rattle.causal_base.specs.History.{all_events}
use Rattle.vector_flight.proofs.ClockRule.{PairLaw, newest_at, clock_of_both, set_own, set_other, length_read}
use Rattle.vector_flight.proofs.rule.write_pair.Goals as goal

pub returns-clause-clock : goal.returns-clause-clock
returns-clause-clock c types history traces newest causal =
    let a = c.args.first.now in
    let b = c.args.second.now in
    let laws : PairLaw = record { first = c.clock_of_pair.ensures.first; second = c.clock_of_pair.ensures.second; other = c.clock_of_pair.ensures.other; same = c.clock_of_pair.ensures.same } in
    let of_a = newest_at types (all_events history) c.args.newest.now a.id.trace c.index-newest-first.result c.requires.first c.index-newest-first.is traces newest in
    let of_b = newest_at types (all_events history) c.args.newest.now b.id.trace c.index-newest-second.result c.requires.second c.index-newest-second.is traces newest in
    let raised = c.raise_to.new.self in
    let once = c.set.new.self in
    let twice = c.set-2.new.self in
    let traces_of_raised : length raised ≡ length c.args.newest.now =
    c.raise_to.ensures.length ∙ (ap (λ (clock : List ℕ). length clock) c.copy_from.ensures ∙ length_read c.args.newest.now (length c.args.newest.now) a.id.trace c.index-newest-first.result c.requires.first c.index-newest-first.is c.requires.newest) in
    let within_a : a.id.trace < length raised = omega (arith, c.requires.first, traces_of_raised) in
    let within_b : b.id.trace < length once = omega (arith, c.requires.second, traces_of_raised, ap (λ (clock : List ℕ). length clock) c.set.ensures, length-set raised a.id.trace a.id.number) in
    clock_of_both laws types history a b causal c.index-newest-first.result c.index-newest-second.result twice of_a of_b
    (set_other once twice b.id.trace b.id.number within_b c.set-2.ensures a.id.trace causal.0.2.traces ∙ set_own raised once a.id.trace a.id.number within_a c.set.ensures)
    (set_own once twice b.id.trace b.id.number within_b c.set-2.ensures)
    (λ trace not_a not_b. set_other once twice b.id.trace b.id.number within_b c.set-2.ensures trace not_b
    ∙ (set_other raised once a.id.trace a.id.number within_a c.set.ensures trace not_a
    ∙ (c.raise_to.ensures.greater trace ∙ ap (λ (clock : List ℕ). max (slice_index clock trace) (slice_index c.index-newest-second.result trace)) c.copy_from.ensures)))
