use Rattle.std.specs.List.{flat_map}
use Rattle.answer_text.specs.Texts.{text_of_count}
use Rattle.poet_io.proofs.CallerLemmas.{cut_after, cut_more, ends_cut, writes_after, written_both}
use Rattle.run_text.specs.Lines.{text_of_after}
use Rattle.run_text.proofs.words.put_levels.Goals as goal

pub returns-in_err-put : goal.returns-in_err-put
returns-in_err-put g c =
    ends_cut c.from_residual.result _ c.from_residual.ensures.1
    (cut_more (text_of_after c.args.after) (cut_more (flat_map text_of_count c.args.sizes.now) c.in_err-put.ensures))

pub returns-in_err-put_sizes : goal.returns-in_err-put_sizes
returns-in_err-put_sizes g c =
    ends_cut c.from_residual-in_err-put_sizes.result _ c.from_residual-in_err-put_sizes.ensures.1
    (cut_more (text_of_after c.args.after) (cut_after c.in_ok-put.ensures c.in_err-put_sizes.ensures))

pub returns : goal.returns
returns g c =
    writes_after (g.K.Sink.state c.put_after.new.out) (text_of_after c.args.after) c.put_after.result
    (written_both c.in_ok-put.ensures c.in_ok-put_sizes.ensures) c.put_after.ensures
