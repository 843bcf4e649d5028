use Rattle.std.proofs.Common.{◌≤◌, ◌<◌, ◌↔◌, sym, subst, arith}
use Rattle.std.specs.Prelude.{Contains, slice_index}
use Rattle.std.proofs.lemmas.Bool.{leb-true, le-leb}
use Rattle.causal_base.specs.Walks.{Reaches}
use Rattle.causal_base.specs.Clocks.{HasClock}
use Rattle.causal_base.specs.ClockWalks.{TellsReach}
use Rattle.causal_base.specs.Past.{HasEvent}
use Rattle.causal_base.specs.Journal.{delivered_by}
use Rattle.causal_base.specs.PlainList.{TypedJournal}
use Rattle.causal_base.proofs.Answering.{delivered_trace}
use Rattle.causal_base.proofs.plain.Plain.number_of.Goals as goal

pub write_clock-requires-clause-trace : goal.write_clock-requires-clause-trace
write_clock-requires-clause-trace c =
    let p = c.self.inside in
    let there = subst (λ (v : TypedJournal). HasEvent (delivered_by v.journal) c.args.id) (sym c.self.view_is) c.requires.delivered in
    let below = delivered_trace p.types p.journal c.self.invariant.0 c.args.id there in
    omega (arith, below, c.self.invariant.0.table.most_traces)

pub returns-clause-clock : goal.returns-clause-clock
returns-clause-clock c =
    let p = c.self.inside in
    let there = subst (λ (v : TypedJournal). HasEvent (delivered_by v.journal) c.args.id) (sym c.self.view_is) c.requires.delivered in
    let below = subst (λ (v : TypedJournal). c.args.trace < v.types.traces) (sym c.self.view_is) c.requires.trace in
    subst (λ (v : TypedJournal). HasClock v.types (delivered_by v.journal) c.args.id c.args.trace (slice_index c.write_clock.new.into c.args.trace)) c.self.view_is
    (c.write_clock.ensures.clock p.types there.0 c.self.invariant.0.legal c.self.invariant.0.table.most_traces there.1 there.2 c.args.trace below)

pub returns-clause-reach : goal.returns-clause-reach
returns-clause-reach c e x e_there is x_there on =
    let p = c.self.inside in
    let clock = c.write_clock.new.into in
    let there = subst (λ (v : TypedJournal). Contains (delivered_by v.journal) e) (sym c.self.view_is) e_there in
    let tells = subst (λ (v : TypedJournal). TellsReach v.types (delivered_by v.journal) e clock) c.self.view_is
    (c.write_clock.ensures.reach p.types e c.self.invariant.0.legal c.self.invariant.0.table.most_traces there is) x x_there in
    subst (λ t. (x.id.number ≤ slice_index clock t) ↔ Reaches c.args.self.now.types (delivered_by c.args.self.now.journal) x e) on
    ((λ most. tells.0 (le-leb x.id.number (slice_index clock x.id.trace) most)), (λ reaches. leb-true x.id.number (slice_index clock x.id.trace) (tells.1 reaches)))
