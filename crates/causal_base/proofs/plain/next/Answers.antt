use Rattle.std.proofs.Common.{reverse, arith}
use Rattle.causal_base.proofs.LegalPasts.{history_of_past, trace_of_enabled}
use Rattle.causal_base.proofs.plain.next.Goals as goal

pub returns-clause-none : goal.returns-clause-none
returns-clause-none c block enabled =
    let its = trace_of_enabled c.args.types.now (reverse c.args.journal.now) c.requires.legal block enabled in
    c.loop-trace.invariant block its.0 enabled its.1 (omega (arith, its.2, c.loop-trace-test.false, c.traces-trace-end.ensures.number))

pub enabled_on-requires-clause-history : goal.enabled_on-requires-clause-history
enabled_on-requires-clause-history c = history_of_past c.args.types.now (reverse c.args.journal.now) c.requires.legal
