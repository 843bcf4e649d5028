use Rattle.std.specs.List.{flat_map}
use Rattle.poet_io.proofs.CallerLemmas.{cut_after, cut_more, ends_cut, writes_after, written_both}
use Rattle.answer_text.specs.Texts.{text_of_more, text_of_tuple}
use Rattle.answer_text.proofs.found.put_found.Goals as goal

pub returns-in_err-put_number_after : goal.returns-in_err-put_number_after
returns-in_err-put_number_after g c =
    ends_cut c.from_residual.result _ c.from_residual.ensures.1
    (cut_more (flat_map text_of_tuple c.args.tuples.now) (cut_more (text_of_more c.args.more) c.in_err-put_number_after.ensures))

pub returns-in_err-put_more : goal.returns-in_err-put_more
returns-in_err-put_more g c =
    ends_cut c.from_residual-in_err-put_more.result _ c.from_residual-in_err-put_more.ensures.1
    (cut_more (flat_map text_of_tuple c.args.tuples.now) (cut_after c.in_ok-put_number_after.ensures c.in_err-put_more.ensures))

pub returns : goal.returns
returns g c =
    writes_after (g.K.Sink.state c.put_tuples.new.out) (flat_map text_of_tuple c.args.tuples.now) c.put_tuples.result
    (written_both c.in_ok-put_number_after.ensures c.in_ok-put_more.ensures) c.put_tuples.ensures
