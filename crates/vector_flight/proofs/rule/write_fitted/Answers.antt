-- Where the last event of the trace has the number that is asked for, it is the one.
use Rattle.std.proofs.Common.{◌∙◌, sym}
use Rattle.causal_base.specs.Journal.{delivered_by}
use Rattle.vector_flight.proofs.ClockRule.{newest_at, last_with_number}
use Rattle.vector_flight.proofs.rule.write_fitted.Goals as goal

pub copy_to-requires : goal.copy_to-requires
copy_to-requires g c id clock there = c.requires.sends id clock there ∙ sym c.requires.into

pub returns-then-number-id-clause-clock : goal.returns-then-number-id-clause-clock
returns-then-number-id-clause-clock g c journal stands newest sends some delivered =
    let types = g.C.Causal.types c.args.delivered.now in
    let last = newest_at types (delivered_by journal) c.args.newest.now c.args.id.trace c.index-newest-id.result c.requires.trace c.index-newest-id.is c.requires.traces newest in
    rw c.copy_from.ensures (last_with_number types (delivered_by journal) c.args.id c.index-newest-id.result last (sym c.number.ensures ∙ c.if-number-id.true) some)
