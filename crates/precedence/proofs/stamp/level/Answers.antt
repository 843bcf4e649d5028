use Rattle.std.proofs.Common.{◌∙◌, ap}
use Rattle.causal_base.specs.declared.event_id.EventId.{EventId}
use Rattle.causal_base.specs.Journal.{deliveries_by}
use Rattle.causal_base.specs.Stamps.{level_of}
use Rattle.precedence.proofs.Lookups.{event_of_stamp, none_without}
use Rattle.precedence.proofs.stamp.level.Goals as goal

pub returns-in-Some-clause-some : goal.returns-in-Some-clause-some
returns-in-Some-clause-some c w are =
    let e = event_of_stamp w c.args.stamps.now.lists are c.args.id c.in-Some.stamp c.in-Some.ensures.some in
    ((e.0, e.1, e.2), c.level.ensures ∙ (e.3.level ∙ ap (λ (i : EventId). level_of w.clustering (deliveries_by w.journal) i) e.2))

pub returns-in-None-clause-none : goal.returns-in-None-clause-none
returns-in-None-clause-none c w are = none_without w c.args.stamps.now.lists are c.args.id c.in-None.ensures.none
