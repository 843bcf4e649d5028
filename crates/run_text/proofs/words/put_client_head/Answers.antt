use Rattle.std.specs.Prelude.{codes}
use Rattle.poet_io.proofs.CallerLemmas.{cut_more, ends_cut, writes_after}
use Rattle.run_text.specs.Lines.{with_number}
use Rattle.run_text.proofs.words.put_client_head.Goals as goal

pub returns-in_err-put_with_number : goal.returns-in_err-put_with_number
returns-in_err-put_with_number g c =
    ends_cut c.from_residual.result _ c.from_residual.ensures.1 (cut_more (with_number (codes " ") c.args.count) c.in_err-put_with_number.ensures)

pub returns : goal.returns
returns g c =
    writes_after (g.K.Sink.state c.put_with_number-2.new.out) (with_number (codes " ") c.args.count) c.put_with_number-2.result c.in_ok-put_with_number.ensures c.put_with_number-2.ensures
