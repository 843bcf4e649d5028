use Rattle.std.specs.List.{flat_map}
use Rattle.poet_io.proofs.CallerLemmas.{cut_more, ends_cut, writes_after}
use Rattle.answer_text.specs.Texts.{text_of_count}
use Rattle.answer_text.proofs.cut.put_cut.Goals as goal

pub returns-in_err-put : goal.returns-in_err-put
returns-in_err-put g c =
    ends_cut c.from_residual.result _ c.from_residual.ensures.1 (cut_more (flat_map text_of_count c.args.counts.now) c.in_err-put.ensures)

pub returns : goal.returns
returns g c =
    writes_after (g.K.Sink.state c.put_counts.new.out) (flat_map text_of_count c.args.counts.now) c.put_counts.result c.in_ok-put.ensures c.put_counts.ensures
