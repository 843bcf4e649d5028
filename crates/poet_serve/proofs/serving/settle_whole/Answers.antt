use Rattle.std.proofs.Common.{ap, subst, sym}
use Rattle.std.specs.Bool.{OnTrue}
use Rattle.causal_base.specs.Journal.{IsSettled}
use Rattle.causal_base.specs.Types.{TypeTable}
use Rattle.event_book.specs.declared.setup.Setup.{Setup}
use Rattle.poet_serve.proofs.Runs.{if_ok}
use Rattle.poet_serve.proofs.serving.settle_whole.Goals as goal

pub returns-clause-settled : goal.returns-clause-settled
returns-clause-settled c = subst (λ (t : TypeTable). OnTrue c.is_ok-settled.result (IsSettled t c.settle.new.self.journal)) (ap (λ (s : Setup). s.types) (sym c.settle.ensures.setup)) (if_ok (IsSettled c.args.desk.now.setup.types c.settle.new.self.journal) c.settle.result c.is_ok-settled.result c.is_ok-settled.ensures.value c.settle.ensures.settled)
