use Rattle.std.proofs.Common.{sym, subst, arith}
use Rattle.causal_base.specs.declared.limits.TheConstants.{MOST_EVENTS}
use Rattle.causal_base.specs.InTurn.{IsInTurn}
use Rattle.causal_base.specs.Types.{TypeTable}
use Rattle.load_run.specs.declared.limits.TheConstants.{START, TRACES}
use Rattle.load_run.specs.Loads.{IsLoadable, load_events}
use Rattle.load_run.specs.LoadTexts.{shares}
use Rattle.load_run.proofs.loading.load.Goals as goal

pub tell-requires-clause-in_turn : goal.tell-requires-clause-in_turn
tell-requires-clause-in_turn c =
    let n = c.args.events in
    let list = load_events n in
    let laws = c.workload_goes_whole.ensures in
    let journal = c.in_ok-desk.desk.journal in
    let loadable = subst (λ (types : TypeTable). IsLoadable types list) (sym c.in_ok-types.ensures) (record {
      few = omega (arith, laws.length n START TRACES, c.requires);
      fit = laws.fit n START TRACES c.requires (omega arith);
      short = laws.short n START TRACES c.requires (omega arith) (omega arith);
    }) in
    subst (λ (types : TypeTable). IsInTurn types MOST_EVENTS (shares list) journal) c.in_ok-types.ensures
    (c.in_ok-desk.ensures.in_turn list loadable c.in_ok-sources.ensures.sources)
