use Rattle.std.proofs.Common.{inr, refl}
use Rattle.std.proofs.lemmas.Result.{on_ok_weaker}
use Rattle.delivery.proofs.Waits.{still_waits}
use Rattle.delivery.proofs.delivery.wait_for.Goals as goal

pub returns-clause-kept : goal.returns-clause-kept
returns-clause-kept c id other inside = still_waits c.args.waiting.now c.wait.new.self c.args.mate c.args.trace c.wait.result c.wait.ensures.ok c.wait.ensures.err id other inside

pub returns-clause-waits : goal.returns-clause-waits
returns-clause-waits c = on_ok_weaker c.wait.result (λ too below. (too.here c.args.trace).1 (inr refl)) c.wait.ensures.ok
