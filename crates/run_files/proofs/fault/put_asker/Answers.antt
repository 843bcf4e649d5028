use Rattle.std.proofs.Common.{sym, subst}
use Rattle.poet_io.specs.Writes.{Writes}
use Rattle.run_files.specs.declared.fault.Asker.{Asker}
use Rattle.run_files.specs.Troubles.{asker_text}
use Rattle.run_files.proofs.fault.put_asker.Goals as goal

pub returns-in-Client : goal.returns-in-Client
returns-in-Client g c =
    subst (λ (asker : Asker). Writes (g.K.Sink.state c.args.out.now) (g.K.Sink.state c.put_client.new.out) (asker_text asker) c.put_client.result) (sym c.in-Client.is) c.put_client.ensures

pub returns-in-Closing : goal.returns-in-Closing
returns-in-Closing g c =
    subst (λ (asker : Asker). Writes (g.K.Sink.state c.args.out.now) (g.K.Sink.state c.put.new.out) (asker_text asker) c.put.result) (sym c.in-Closing.is) c.put.ensures
