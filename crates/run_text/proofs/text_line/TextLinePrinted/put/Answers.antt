use Rattle.std.specs.Prelude.{codes}
use Rattle.poet_io.proofs.CallerLemmas.{writes_after}
use Rattle.run_text.proofs.text_line.TextLinePrinted.put.Goals as goal

pub returns : goal.returns
returns g c =
    writes_after (g.K.Sink.state c.put.new.out) (codes "\n") c.put.result c.in_ok-put_unended.ensures c.put.ensures
