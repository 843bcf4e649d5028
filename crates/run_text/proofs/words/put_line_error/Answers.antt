use Rattle.std.proofs.Common.{◌++◌, ◌∙◌, subst}
use Rattle.std.specs.Prelude.{codes}
use Rattle.poet_io.specs.Writes.{Writes}
use Rattle.poet_io.proofs.CallerLemmas.{cut_after, cut_more, ends_cut, writes_after}
use Rattle.raw_reader.specs.CauseNames.{cause_name}
use Rattle.run_text.proofs.words.put_line_error.Goals as goal

pub returns-in_err-put_with_number : goal.returns-in_err-put_with_number
returns-in_err-put_with_number g c =
    ends_cut c.from_residual.result _ c.from_residual.ensures.1
    (cut_more (codes " " ++ cause_name c.args.error.cause) c.in_err-put_with_number.ensures)

pub returns-in_err-put : goal.returns-in_err-put
returns-in_err-put g c =
    ends_cut c.from_residual-in_err-put.result _ c.from_residual-in_err-put.ensures.1
    (cut_after c.in_ok-put_with_number.ensures (cut_more (cause_name c.args.error.cause) c.in_err-put.ensures))

pub returns : goal.returns
returns g c =
    let state = g.K.Sink.state in
    let after = state c.put-2.new.out in
    let name = cause_name c.args.error.cause in
    writes_after after (codes " " ++ name) c.put-2.result c.in_ok-put_with_number.ensures
    (writes_after after name c.put-2.result c.in_ok-put.ensures
    (subst (λ bytes. Writes (state c.put.new.out) after bytes c.put-2.result) (c.as_bytes.ensures.value ∙ c.name.ensures) c.put-2.ensures))
