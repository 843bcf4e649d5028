use Rattle.std.proofs.Common.{reverse, inl, inr, sym, subst, arith}
use Rattle.std.specs.Prelude.{Contains}
use Rattle.causal_base.specs.Past.{came, deliveries, HasTrace}
use Rattle.delivery.specs.Leading.{first_trace}
use Rattle.delivery.proofs.Leaders.{first_below}
use Rattle.delivery.proofs.Prefixes.{among_more, take_all}
use Rattle.delivery.proofs.looking.look_at_each.Goals as goal

pub loop-trace-preserved : goal.loop-trace-preserved
loop-trace-preserved c = record {
  kept = λ other below is. c.look.ensures.kept other below (c.loop-trace.invariant.kept other below is);
  sound = λ other below is. elim (c.look.ensures.sound other below is) [ inl was ↦ c.loop-trace.invariant.sound other below was | inr leads ↦ inr leads ];
  found = λ block trace enabled has among. elim (among_more c.args.traces.now c.loop-trace.trace-index 0 trace c.loop-trace-test.true among) [
    | inl before ↦
        let past = reverse c.args.journal.now in
        let below = first_below c.args.types.now (came past) (deliveries past) c.requires block enabled in
        c.look.ensures.kept (first_trace block) (omega (arith, below, c.traces-traces.ensures.table.most_traces)) (c.loop-trace.invariant.found block trace enabled has before)
    | inr last ↦ c.look.ensures.found block enabled (subst (HasTrace block) last has)
  ];
}

pub returns-clause-found : goal.returns-clause-found
returns-clause-found c block trace enabled has among =
    c.loop-trace.invariant.found block trace enabled has (subst (λ ts. Contains ts trace) (sym (take_all c.args.traces.now c.loop-trace.trace-index c.loop-trace-test.false)) among)
