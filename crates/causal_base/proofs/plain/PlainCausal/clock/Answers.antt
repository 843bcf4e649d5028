use Rattle.std.proofs.Common.{◌≡◌, sym, subst, arith, length, List}
use Rattle.std.specs.Prelude.{Contains}
use Rattle.causal_base.specs.declared.entry.Entry.{Entry}
use Rattle.causal_base.specs.Clocks.{HasClocks}
use Rattle.causal_base.specs.Journal.{delivered_by}
use Rattle.causal_base.specs.PlainList.{TypedJournal, IsOpenJournal}
use Rattle.causal_base.proofs.Answering.{delivered_trace}
use Rattle.causal_base.proofs.plain.PlainCausal.clock.Goals as goal

pub write_clock-requires-clause-legal : goal.write_clock-requires-clause-legal
write_clock-requires-clause-legal g c =
    let size : c.self.inside.types.traces ≡ length c.args.into.now = subst (λ (v : TypedJournal). v.types.traces ≡ length c.args.into.now) (sym c.self.view_is) (sym c.requires) in
    (c.self.inside.types, c.self.invariant.0.legal, omega (arith, size))

pub write_clock-requires-clause-trace : goal.write_clock-requires-clause-trace
write_clock-requires-clause-trace g c =
    let v = c.args.self.now in
    let kept = subst (λ (w : TypedJournal). IsOpenJournal w.types w.journal) c.self.view_is c.self.invariant.0 in
    let below = delivered_trace v.types v.journal kept c.args.id (c.in-Some.field-0.now, c.in-Some.ensures.some.0, c.in-Some.ensures.some.1) in
    let size = c.requires in
    omega (arith, below, size)

pub returns-in-Some-clause-delivered : goal.returns-in-Some-clause-delivered
returns-in-Some-clause-delivered g c journal stands =
    let v = c.args.self.now in
    let kept = subst (λ (w : TypedJournal). IsOpenJournal w.types w.journal) c.self.view_is c.self.invariant.0 in
    let e = c.in-Some.field-0.now in
    let size = c.requires in
    let p = c.self.inside in
    let there = subst (λ (w : TypedJournal). Contains (delivered_by w.journal) e) (sym c.self.view_is) c.in-Some.ensures.some.0 in
    let few = subst (λ (w : TypedJournal). w.types.traces ≡ length c.args.into.now) (sym c.self.view_is) (sym size) in
    let clocks = subst (λ (w : TypedJournal). HasClocks w.types (delivered_by w.journal) c.args.id c.write_clock.new.into) c.self.view_is
    (c.write_clock.ensures.clock p.types e c.self.invariant.0.legal (omega (arith, few)) there c.in-Some.ensures.some.1) in
    subst (λ (j : List Entry). HasClocks v.types (delivered_by j) c.args.id c.write_clock.new.into) (sym stands.0) clocks
