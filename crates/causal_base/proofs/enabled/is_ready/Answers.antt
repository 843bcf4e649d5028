use Rattle.causal_base.proofs.Ready.{type_in_range}
use Rattle.causal_base.proofs.enabled.is_ready.Goals as goal

pub kind-requires : goal.kind-requires
kind-requires g c =
    type_in_range c.args.types.now c.args.event.now (c.requires.history.fit c.args.event.now c.requires.came)
