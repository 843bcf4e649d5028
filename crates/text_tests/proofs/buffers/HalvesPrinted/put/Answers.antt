use Rattle.poet_io.proofs.CallerLemmas.{writes_after}
use Rattle.text_tests.proofs.buffers.HalvesPrinted.put.Goals as goal

pub returns : goal.returns
returns g c =
    writes_after (g.K.Sink.state c.put-2.new.out) c.args.self.now.second.now c.put-2.result c.in_ok-put.ensures c.put-2.ensures
