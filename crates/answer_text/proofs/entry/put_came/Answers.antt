use Rattle.std.proofs.Common.{◌++◌}
use Rattle.std.specs.Prelude.{codes}
use Rattle.causal_base.specs.Spelling.{spelling}
use Rattle.poet_io.proofs.CallerLemmas.{cut_after, cut_more, ends_cut, writes_after}
use Rattle.answer_text.proofs.entry.put_came.Goals as goal

pub returns-in_err-put_number_after : goal.returns-in_err-put_number_after
returns-in_err-put_number_after g c =
    ends_cut c.from_residual.result _ c.from_residual.ensures.1 (cut_more (codes " " ++ spelling c.args.types.now c.args.event.now) c.in_err-put_number_after.ensures)

pub returns-in_err-put : goal.returns-in_err-put
returns-in_err-put g c =
    ends_cut c.from_residual-in_err-put.result _ c.from_residual-in_err-put.ensures.1
    (cut_after c.in_ok-put_number_after.ensures (cut_more (spelling c.args.types.now c.args.event.now) c.in_err-put.ensures))

pub returns : goal.returns
returns g c =
    let after = g.K.Sink.state c.put_event.new.out in
    let event = spelling c.args.types.now c.args.event.now in
    writes_after after (codes " " ++ event) c.put_event.result c.in_ok-put_number_after.ensures
    (writes_after after event c.put_event.result c.in_ok-put.ensures c.put_event.ensures)
