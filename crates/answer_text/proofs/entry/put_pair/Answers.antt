use Rattle.std.proofs.Common.{◌++◌}
use Rattle.std.specs.Prelude.{codes}
use Rattle.causal_base.specs.Spelling.{id_text}
use Rattle.poet_io.proofs.CallerLemmas.{cut_more, ends_cut, writes_after}
use Rattle.answer_text.proofs.entry.put_pair.Goals as goal

pub returns-in_err-put_id_after : goal.returns-in_err-put_id_after
returns-in_err-put_id_after g c =
    ends_cut c.from_residual.result _ c.from_residual.ensures.1 (cut_more (codes " " ++ id_text c.args.second) c.in_err-put_id_after.ensures)

pub returns : goal.returns
returns g c =
    writes_after (g.K.Sink.state c.put_id_after-2.new.out) (codes " " ++ id_text c.args.second) c.put_id_after-2.result c.in_ok-put_id_after.ensures c.put_id_after-2.ensures
