-- The rule for an event that is delivered alone, with or without one that it fits.
use Rattle.std.proofs.Common.{◌∙◌, ◌≡◌, ◌<◌, List, ℕ, length, ap, arith}
use Rattle.std.specs.Prelude.{slice_index}
use Rattle.causal_base.specs.Journal.{delivered_by, deliveries_by}
use Rattle.vector_flight.proofs.ClockRule.{OneLaw, newest_at, clock_onward, clock_joined, mate_is_delivered, set_own, set_other, length_read}
use Rattle.vector_flight.proofs.rule.write_one.Goals as goal
use Rattle.vector_flight.proofs.rule.write_one.Goals.{in-Some, in-None}

pub returns-clause-clock : goal.returns-clause-clock
returns-clause-clock g c journal stands newest sends causal =
    let types = g.C.Causal.types c.args.delivered.now in
    let e = c.args.event.now in
    let laws : OneLaw = record { own = c.clock_of_one.ensures.own; other = c.clock_of_one.ensures.other } in
    let on : e.id.trace < length c.args.newest.now = omega (arith, c.requires.fit.id.trace, c.requires.traces) in
    let own = newest_at types (delivered_by journal) c.args.newest.now e.id.trace c.index-newest-event.result on c.index-newest-event.is c.requires.traces newest in
    let into = c.match-event.into in
    elim c.match-event.branch [
      | in-Some w ↦
          let within : e.id.trace < length into = omega (arith, on, ap (λ (clock : List ℕ). length clock) w.into-is, w.raise_to.ensures.length, w.write_fitted.ensures.length) in
          let mate = w.in-Some.mate in
          let delivered = mate_is_delivered types (deliveries_by journal) e causal c.requires.fit mate w.in-Some.is in
          let some = (rw w.in-Some.is at c.requires.fit.mate_in_range).least in
          let fitted = w.write_fitted.ensures.clock journal stands newest sends some delivered in
          clock_joined laws types (deliveries_by journal) e causal c.index-newest-event.result own c.set.new.self
          (set_own into c.set.new.self e.id.trace e.id.number within c.set.ensures) c.requires.fit mate w.in-Some.is w.write_fitted.new.into fitted
          (λ trace other. set_other into c.set.new.self e.id.trace e.id.number within c.set.ensures trace other ∙ (ap (λ (clock : List ℕ). slice_index clock trace) w.into-is ∙ w.raise_to.ensures.greater trace))
      | in-None w ↦
          let same : into ≡ c.index-newest-event.result = w.into-is ∙ w.copy_from.ensures in
          let within : e.id.trace < length into = omega (arith, on, ap (λ (clock : List ℕ). length clock) same, length_read c.args.newest.now (length c.args.newest.now) e.id.trace c.index-newest-event.result on c.index-newest-event.is c.requires.newest) in
          clock_onward laws types (deliveries_by journal) e causal c.index-newest-event.result own c.set.new.self
          (set_own into c.set.new.self e.id.trace e.id.number within c.set.ensures) w.in-None.is
          (λ trace other. set_other into c.set.new.self e.id.trace e.id.number within c.set.ensures trace other ∙ ap (λ (clock : List ℕ). slice_index clock trace) same)
    ]
