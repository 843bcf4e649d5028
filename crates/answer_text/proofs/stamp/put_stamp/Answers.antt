use Rattle.std.specs.List.{flat_map}
use Rattle.poet_io.proofs.CallerLemmas.{cut_more, ends_cut, writes_after}
use Rattle.answer_text.specs.Texts.{text_of_part}
use Rattle.answer_text.proofs.stamp.put_stamp.Goals as goal

pub returns-in_err-put_number_after : goal.returns-in_err-put_number_after
returns-in_err-put_number_after g c =
    ends_cut c.from_residual.result _ c.from_residual.ensures.1 (cut_more (flat_map text_of_part c.args.parts.now) c.in_err-put_number_after.ensures)

pub returns : goal.returns
returns g c =
    writes_after (g.K.Sink.state c.put_parts.new.out) (flat_map text_of_part c.args.parts.now) c.put_parts.result c.in_ok-put_number_after.ensures c.put_parts.ensures
